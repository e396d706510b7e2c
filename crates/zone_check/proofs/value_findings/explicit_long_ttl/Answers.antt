use Rattle.std.proofs.Common.{refl, sym, subst, take_all}
use Rattle.zone_check.specs.ValueFindings.{IsFirstLongTtl}
use Rattle.zone_check.proofs.value_findings.explicit_long_ttl.Goals as goal

pub returns-then-seconds-ne0 : goal.returns-then-seconds-ne0
returns-then-seconds-ne0 c = (λ e. absurd (c.if-seconds-ne0.true e), λ _. refl)

pub returns-then-words-le2 : goal.returns-then-words-le2
returns-then-words-le2 c = (
  λ _. subst (λ w. IsFirstLongTtl w c.first_long_ttl.result) (sym (take_all 2 c.args.words.now c.if-words-le2.true)) c.first_long_ttl.ensures,
  λ n. absurd (n c.if-seconds-ne0.false),
)

pub returns : goal.returns
returns c = (λ _. c.first_long_ttl-2.ensures, λ n. absurd (n c.if-seconds-ne0.false))
