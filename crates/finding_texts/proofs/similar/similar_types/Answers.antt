use Rattle.std.proofs.Common.{[], ap, sym, cond, take, ◌∙◌, length}
use Rattle.rdata_values.specs.Types.{type_rows}
use Rattle.std.specs.Str.{str_to_ascii_uppercase}
use Rattle.finding_texts.specs.Similar.{suggested_types}
use Rattle.finding_texts.proofs.Suggesting.{is_between}
use Rattle.finding_texts.proofs.similar.similar_types.Goals as goal

pub returns : goal.returns
unfolding type_rows
returns c =
    let word = c.args.word.now in
    let upper = c.as_str.ensures.value ∙ c.in_ok-word.ensures.ok in
    let all = c.in_ok-types.ensures ∙ ap (suggested_types type_rows) upper in
    let fits = is_between 2 (length word) 16 c.if-word-lt2.false c.if-word-gt16.false in
    c.truncate.ensures.items ∙ ap (take 3) all ∙ sym (ap (λ b. cond b (take 3 (suggested_types type_rows (str_to_ascii_uppercase word))) []) fits)
