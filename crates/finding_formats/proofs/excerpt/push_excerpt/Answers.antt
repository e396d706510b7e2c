use Rattle.std.proofs.Common.{◌-◌, ◌∙◌, ap, length, take, drop}
use Rattle.finding_formats.specs.Excerpt.{mark_width}
use Rattle.finding_formats.proofs.Excerpts.{excerpt_made, rest_is}
use Rattle.finding_formats.proofs.excerpt.push_excerpt.Goals as goal

pub returns : goal.returns
returns g c =
    let last = c.push_caret in
    let line = c.args.line.now in
    let start = c.place_of.result in
    let first = c.first_shown-first.result in
    let ahead = c.characters_before.result - first in
    let rest = take (length line - start) (drop start line) in
    excerpt_made last.result c.args.is_coloured c.is_showable.result line rest c.args.column c.args.end_column start c.place_of-2.result first (c.characters_before.result - first) c.mark_width-width.result
    c.args.out.now.items c.push_shown.new.out.items c.push.new.self.items last.new.out.items
    (rest_is line start) c.first_shown-first.ensures (ap (λ n. n - first) c.characters_before.ensures) c.place_of.ensures c.place_of-2.ensures c.is_showable.ensures c.in_ok-push_shown.ensures c.in_ok-push.ensures.items
    (c.mark_width-width.ensures ∙ ap (λ n. mark_width n ahead c.count_columns.result) c.saturating_sub-wanted.ensures ∙ ap (λ n. mark_width (c.args.end_column - c.args.column) ahead n) c.count_columns.ensures) last.ensures
