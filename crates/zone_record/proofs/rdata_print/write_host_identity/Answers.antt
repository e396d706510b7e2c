use Rattle.std.proofs.Common.{ℕ, List, None, ◌≡◌, ◌+◌, ◌-◌, ◌++◌, ◌∷◌, ◌∙◌, ap, append_assoc, drop, length, refl, subst, sym, take, arith}
use Rattle.std.specs.Prelude.{slice_index}
use Rattle.dns_codec.specs.Base.{base64, encoded}
use Rattle.std.proofs.Math.Seq.{take-append_seam}
use Rattle.std.proofs.lemmas.Result.{on_err_weaker, on_ok_weaker}
use Rattle.rdata_tokens.specs.NameSpelling.{IsWireName}
use Rattle.rdata_tokens.proofs.Pieces.{rest_of}
use Rattle.rdata.specs.GatewayKeys.{plain_word}
use Rattle.rdata.specs.HostIdentities.{HasServersAt, IsHit, host_identity_form, servers_form}
use Rattle.rdata.specs.Rests.{PrintedToken}
use Rattle.rdata.specs.TokenForms.{AreParts}
use Rattle.rdata.proofs.HostWire.{host_tokens, servers_place, servers_there}
use Rattle.zone_record.proofs.PrintedTokens.{none_printed, more_printed, rest_printed, next_failed, rest_failed, on_err_of}
use Rattle.zone_record.proofs.rdata_print.write_host_identity.Goals as goal

-- the octets that are cut off are the tag
tag_cut : (octets : List ℕ) (at start : ℕ) → HasServersAt octets at → start ≡ 4 + slice_index octets 0 → IsHit (take (start - 4) (drop 4 octets))
tag_cut octets at start h is =
    let hits : slice_index octets 0 ≡ length h.hit = ap (λ o. slice_index o 0) h.split in
    let short : start - 4 ≡ length h.hit = omega (arith, is, hits) in
    let tag : take (start - 4) (drop 4 octets) ≡ h.hit =
    ap (λ n. take n (drop 4 octets)) short ∙ ap (λ o. take (length h.hit) (drop 4 o)) h.split ∙ ap (take (length h.hit)) (append_assoc h.hit h.key h.servers) ∙ take-append_seam h.hit (h.key ++ h.servers)
    in
    subst IsHit (sym tag) h.is_hit

-- the octets after the key are names
names_cut : (octets : List ℕ) (at : ℕ) → HasServersAt octets at → (host_identity_form None).is_wire octets → AreParts IsWireName (take (length octets - at) (drop at octets))
names_cut octets at h is =
    let there = servers_there octets is in
    let same = servers_place octets there.0 there.1 ∙ sym (servers_place octets at h) in
    subst (AreParts IsWireName) (sym (rest_of at octets)) (subst (λ n. AreParts IsWireName (drop n octets)) same there.2)

-- the tokens of the servers
abbrev servers_tokens : List ℕ → ℕ → List PrintedToken
servers_tokens octets at = (servers_form None).printed (take (length octets - at) (drop at octets))

key_token : (shown key : List ℕ) (left : List PrintedToken) → shown ≡ key → plain_word (encoded base64 key) ∷ left ≡ plain_word (encoded base64 shown) ∷ left
key_token shown key left is = ap (λ o. plain_word (encoded base64 o) ∷ left) (sym is)

pub unreachable-requires : goal.unreachable-requires
unreachable-requires g c = let there = servers_there c.args.octets.now c.requires in c.in_default.ensures there.0 there.1

pub write_hit-requires : goal.write_hit-requires
write_hit-requires g c = tag_cut c.args.octets.now c.in-Some.end (4 + c.from-start.result) c.in-Some.ensures (ap (λ n. 4 + n) c.from-start.ensures)

pub write_servers-requires : goal.write_servers-requires
write_servers-requires g c = names_cut c.args.octets.now c.in-Some.end c.in-Some.ensures c.requires

pub returns-in_err-write_token-clause-fails : goal.returns-in_err-write_token-clause-fails
returns-in_err-write_token-clause-fails g c =
    let octets = c.args.octets.now in
    let start = ap (λ n. 4 + n) c.from-start.ensures in
    let tokens = host_tokens octets c.in-Some.end (4 + c.from-start.result) c.in-Some.ensures start in
    on_err_of c.from_residual.result (next_failed _ _ _ _ _ _ _ _ _ (none_printed _ _ _ _) tokens c.in_err-write_token.ensures.fails)

pub returns-in_err-write_hit-clause-fails : goal.returns-in_err-write_hit-clause-fails
returns-in_err-write_hit-clause-fails g c =
    let octets = c.args.octets.now in
    let start = ap (λ n. 4 + n) c.from-start.ensures in
    let tokens = host_tokens octets c.in-Some.end (4 + c.from-start.result) c.in-Some.ensures start in
    let first = more_printed _ _ _ _ _ _ _ _ _ (none_printed _ _ _ _) tokens c.in_ok-write_token.ensures.blocks c.in_ok-write_token.ensures.gives in
    on_err_of c.from_residual-in_err-write_hit.result (next_failed _ _ _ _ _ _ _ _ _ first refl c.in_err-write_hit.ensures.fails)

pub returns-in_err-write_token-2-clause-fails : goal.returns-in_err-write_token-2-clause-fails
returns-in_err-write_token-2-clause-fails g c =
    let octets = c.args.octets.now in
    let start = ap (λ n. 4 + n) c.from-start.ensures in
    let tokens = host_tokens octets c.in-Some.end (4 + c.from-start.result) c.in-Some.ensures start in
    let first = more_printed _ _ _ _ _ _ _ _ _ (none_printed _ _ _ _) tokens c.in_ok-write_token.ensures.blocks c.in_ok-write_token.ensures.gives in
    let second = more_printed _ _ _ _ _ _ _ _ _ first refl c.in_ok-write_hit.ensures.blocks c.in_ok-write_hit.ensures.gives in
    let key = key_token _ _ (servers_tokens octets c.in-Some.end) c.encode_display.ensures in
    on_err_of c.from_residual-in_err-write_token-2.result (next_failed _ _ _ _ _ _ _ _ _ second key c.in_err-write_token-2.ensures.fails)

pub returns-clause-gives : goal.returns-clause-gives
returns-clause-gives g c =
    let octets = c.args.octets.now in
    let start = ap (λ n. 4 + n) c.from-start.ensures in
    let tokens = host_tokens octets c.in-Some.end (4 + c.from-start.result) c.in-Some.ensures start in
    let first = more_printed _ _ _ _ _ _ _ _ _ (none_printed _ _ _ _) tokens c.in_ok-write_token.ensures.blocks c.in_ok-write_token.ensures.gives in
    let second = more_printed _ _ _ _ _ _ _ _ _ first refl c.in_ok-write_hit.ensures.blocks c.in_ok-write_hit.ensures.gives in
    let key = key_token _ _ (servers_tokens octets c.in-Some.end) c.encode_display.ensures in
    let third = more_printed _ _ _ _ _ _ _ _ _ second key c.in_ok-write_token-2.ensures.blocks c.in_ok-write_token-2.ensures.gives in
    on_ok_weaker c.write_servers.result (rest_printed _ _ _ _ _ _ _ third) c.write_servers.ensures.gives

pub returns-clause-fails : goal.returns-clause-fails
returns-clause-fails g c =
    let octets = c.args.octets.now in
    let start = ap (λ n. 4 + n) c.from-start.ensures in
    let tokens = host_tokens octets c.in-Some.end (4 + c.from-start.result) c.in-Some.ensures start in
    let first = more_printed _ _ _ _ _ _ _ _ _ (none_printed _ _ _ _) tokens c.in_ok-write_token.ensures.blocks c.in_ok-write_token.ensures.gives in
    let second = more_printed _ _ _ _ _ _ _ _ _ first refl c.in_ok-write_hit.ensures.blocks c.in_ok-write_hit.ensures.gives in
    let key = key_token _ _ (servers_tokens octets c.in-Some.end) c.encode_display.ensures in
    let third = more_printed _ _ _ _ _ _ _ _ _ second key c.in_ok-write_token-2.ensures.blocks c.in_ok-write_token-2.ensures.gives in
    on_err_weaker c.write_servers.result (rest_failed _ _ _ _ _ _ _ third) c.write_servers.ensures.fails
