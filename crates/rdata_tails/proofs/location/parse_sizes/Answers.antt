use Rattle.std.proofs.Common.{◌∙◌, sym}
use Rattle.rdata_fields.proofs.Tokens.{none_left}
use Rattle.rdata_tails.specs.declared.location.Sizes.{Sizes}
use Rattle.rdata_tails.specs.Locations.{usual_size, usual_horizontal, usual_vertical}
use Rattle.rdata_tails.proofs.LocationLemmas.{some_here, first_stops, second_stops, third_stops, behind_sizes, all_sizes}
use Rattle.rdata_tails.proofs.location.parse_sizes.Goals as goal

pub returns-in_default-clause-takes : goal.returns-in_default-clause-takes
returns-in_default-clause-takes g c = first_stops _ _ c.in_default.ensures.takes

pub returns-in_default-parse_size-clause-takes : goal.returns-in_default-parse_size-clause-takes
returns-in_default-parse_size-clause-takes g c = second_stops usual_size c.in-Some.size _ _ _ c.in-Some.ensures.takes c.in_default-parse_size.ensures.takes

pub returns-in_default-parse_size-2-clause-takes : goal.returns-in_default-parse_size-2-clause-takes
returns-in_default-parse_size-2-clause-takes g c =
    third_stops usual_size usual_horizontal c.in-Some.size c.in-Some-parse_size.horizontal _ _ _ _ c.in-Some.ensures.takes c.in-Some-parse_size.ensures.takes c.in_default-parse_size-2.ensures.takes

pub returns-then-is_some-clause-takes : goal.returns-then-is_some-clause-takes
returns-then-is_some-clause-takes g c =
    let some = some_here c.current.result _ c.current.ensures (sym c.is_some.ensures ∙ c.if-is_some.true) in
    behind_sizes usual_size usual_horizontal usual_vertical c.in-Some.size c.in-Some-parse_size.horizontal c.in-Some-parse_size-2.vertical _ _ _ _ c.in-Some.ensures.takes c.in-Some-parse_size.ensures.takes c.in-Some-parse_size-2.ensures.takes some

pub returns-clause-takes : goal.returns-clause-takes
returns-clause-takes g c =
    let none = none_left c.current.result (g.S.TokenSource.left c.parse_size-3.new.source) c.current.ensures (sym c.is_some.ensures ∙ c.if-is_some.false) in
    let s : Sizes = record { size = c.in-Some.size; horizontal = c.in-Some-parse_size.horizontal; vertical = c.in-Some-parse_size-2.vertical } in
    all_sizes s _ _ _ _ c.in-Some.ensures.takes c.in-Some-parse_size.ensures.takes c.in-Some-parse_size-2.ensures.takes none
