use Rattle.std.proofs.Common.{◌∙◌, sym, ap, drop}
use Rattle.zone_check.proofs.FindingSteps.{has_fields, last_offset_of, no_fields, some_tokens}
use Rattle.zone_check.proofs.rule_findings.how_written.Goals as goal

pub returns-then-is_empty : goal.returns-then-is_empty
returns-then-is_empty c = no_fields c.args.words.now (sym c.is_empty.ensures ∙ c.if-is_empty.true)

pub returns-then-is_generic_token : goal.returns-then-is_generic_token
returns-then-is_generic_token c =
    has_fields c.args.words.now _ (some_tokens _ (sym c.is_empty.ensures ∙ c.if-is_empty.false)) ∙ sym c.is_generic_token.ensures ∙ c.if-is_generic_token.true

pub returns : goal.returns
returns c =
    let some = some_tokens _ (sym c.is_empty.ensures ∙ c.if-is_empty.false) in (
      has_fields c.args.words.now _ some ∙ sym c.is_generic_token.ensures ∙ c.if-is_generic_token.false,
      c.has_quoted-has_quotes.ensures,
      c.octets_from-last.ensures ∙ sym (ap (λ n. drop n c.args.octets.now) (last_offset_of c.args.words.now _ some)),
    )
