use Rattle.std.proofs.Common.{sym, subst}
use Rattle.rdata_tails.specs.Prefixes.{SpellsPrefix}
use Rattle.rdata_values.specs.Kind.{ReadsKind}
use Rattle.rdata_values.specs.declared.error.ErrorKind.TheVariants.{ExpectedPrefix}
use Rattle.rdata_tails.proofs.PrefixLemmas.{reads_plain, behind_one, reads_exclusion}
use Rattle.rdata_tails.proofs.apl.Prefix.from_text.Goals as goal

pub returns-then-not-has_exclusion : goal.returns-then-not-has_exclusion
returns-then-not-has_exclusion c = subst (ReadsKind SpellsPrefix ExpectedPrefix c.args.text.now) (sym c.ok_or.ensures.value) (reads_plain c.args.text.now _ c.if-not-has_exclusion.ensures c.plain_from_text.ensures)

pub returns : goal.returns
returns c = subst (ReadsKind SpellsPrefix ExpectedPrefix c.args.text.now) (sym c.ok_or-2.ensures.value) (reads_exclusion c.args.text.now _ _ (behind_one c.args.text.now c.if-not-has_exclusion.ensures) c.plain_from_text-2.ensures)
