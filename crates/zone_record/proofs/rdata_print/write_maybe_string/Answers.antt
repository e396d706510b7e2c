use Rattle.std.proofs.Common.{ℕ, List, [], ◌∷◌, ◌≡◌, ◌≢◌, ◌-◌, ◌∙◌, ap, drop, length, refl, sym, take}
use Rattle.std.proofs.lemmas.Bool.{eqb-false}
use Rattle.std.proofs.lemmas.Result.{on_err_weaker}
use Rattle.rdata_tokens.proofs.Pieces.{rest_of}
use Rattle.rdata.specs.MaybeStrings.{printed_maybe_string}
use Rattle.rdata.proofs.PrintedStrings.{quoted_token}
use Rattle.zone_record.proofs.PrintedTokens.{one_failed}
use Rattle.zone_record.proofs.rdata_print.write_maybe_string.Goals as goal

string_printed : (octets : List ℕ) → length octets ≢ 0 → printed_maybe_string octets ≡ quoted_token (take (length octets - 1) (drop 1 octets)) ∷ []
string_printed [] some = absurd (some refl)
string_printed (o ∷ os) some = ap (λ s. quoted_token s ∷ []) (sym (rest_of 1 (o ∷ os)))

pub returns-clause-fails : goal.returns-clause-fails
returns-clause-fails g c =
    let octets = c.args.octets.now in
    let some = eqb-false (length octets) 0 (sym c.is_empty.ensures ∙ c.if-is_empty.false) in
    on_err_weaker c.write_token.result (one_failed _ _ _ _ _ _ (string_printed octets some)) c.write_token.ensures.fails
