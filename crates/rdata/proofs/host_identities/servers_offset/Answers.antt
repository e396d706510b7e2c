use Rattle.std.proofs.Common.{◌+◌, ◌∙◌, ◌∷◌, arith, drop, length-drop, subst, sym}
use Rattle.std.proofs.lemmas.List.{get_or_default}
use Rattle.std.specs.Prelude.{slice_index}
use Rattle.rdata_tokens.specs.Spelling.{AreOctetValues}
use Rattle.rdata.specs.HostIdentities.{HasServersAt}
use Rattle.rdata.proofs.HostWire.{found_servers, four_first}
use Rattle.rdata.proofs.host_identities.servers_offset.Goals as goal

pub returns : goal.returns
returns c =
    let octets = c.args.octets.now in
    let key = c.from-key.result in
    let whole = four_first octets c.if-octets-lt4.false in
    let values : AreOctetValues octets = λ k d h. rw (get_or_default octets k d 0 h) (c.type_inv.octets k).fits in
    let there =
    found_servers (slice_index octets 0) (slice_index octets 1) (slice_index octets 2) (slice_index octets 3) (drop 4 octets) (subst AreOctetValues whole values) key (c.from-key.ensures ∙ c.from_be_bytes.ensures)
    (omega (arith, c.from-hit.ensures, c.if-hit-eq0.false)) (omega (arith, c.if-key-eq0.false)) (omega (arith, c.from-hit.ensures, c.if-octets-hit.false, length-drop 4 octets))
    in
    subst (λ o. HasServersAt o (4 + c.from-hit.result + key)) (sym whole)
    (subst (λ n. HasServersAt (slice_index octets 0 ∷ slice_index octets 1 ∷ slice_index octets 2 ∷ slice_index octets 3 ∷ drop 4 octets) (4 + n + key)) (sym c.from-hit.ensures) there)
