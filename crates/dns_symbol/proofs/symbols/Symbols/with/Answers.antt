use Rattle.std.proofs.Common.{refl, ap, ◌∙◌, Err}
use Rattle.std.proofs.lemmas.Result.{err_from_is_err_and}
use Rattle.dns_symbol.proofs.Answered.{answers_refusal, answers_error, answers_value}
use Rattle.dns_symbol.proofs.symbols.Symbols.with.Goals as goal

pub returns-in_err-value : goal.returns-in_err-value
returns-in_err-value g c =
    let p = err_from_is_err_and c.from_residual.result c.from_residual.ensures.1 in (
      c.op.result,
      c.op.new.arg2,
      record { shown = _; shows = c.new-symbols.ensures; left = _; met = c.op.ensures; leaves = refl },
      answers_refusal _ c.op.result c.from_residual.result c.op.new.arg2 _ c.in_err-value.was (p.1 ∙ ap Err p.2),
    )

pub returns-in_err-ok : goal.returns-in_err-ok
returns-in_err-ok g c = (
  c.op.result,
  c.op.new.arg2,
  record { shown = _; shows = c.new-symbols.ensures; left = _; met = c.op.ensures; leaves = refl },
  answers_error _ c.op.result c.from_residual-in_err-ok.result c.op.new.arg2 c.in_ok-value.value _ c.in_ok-value.was c.in_err-ok.ensures c.from_residual-in_err-ok.ensures.1,
)

pub returns : goal.returns
returns g c = (
  c.op.result,
  c.op.new.arg2,
  record { shown = _; shows = c.new-symbols.ensures; left = _; met = c.op.ensures; leaves = refl },
  answers_value g.E.From.from_gives c.op.result c.op.new.arg2 c.in_ok-value.value c.in_ok-value.was c.in_ok-ok.ensures,
)
