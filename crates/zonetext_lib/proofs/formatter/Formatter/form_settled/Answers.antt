use Rattle.std.proofs.Common.{sym, subst, take}
use Rattle.std.specs.Prelude.{Ok, Err}
use Rattle.zone_format.specs.Blocks.{FormatsEntries, FormatsLast}
use Rattle.zone_format.specs.declared.place.LocatedOffset.{LocatedOffset}
use Rattle.zonetext_lib.specs.Forming.{FormedSoFar, FormsSettled, HasNoFormAfter}
use Rattle.zonetext_lib.specs.HeldForm.{Forming}
use Rattle.zonetext_lib.proofs.Forming.{bad_forms, never_formed, settled_forms}
use Rattle.zonetext_lib.proofs.formatter.Formatter.form_settled.Goals as goal

pub returns-in-Ok-format_entries : goal.returns-in-Ok-format_entries
returns-in-Ok-format_entries g c =
    let at = c.in-Ok.at in
    let m = c.in-Ok-format_entries.seam in
    let from = c.args.out.now.items in
    let to = c.format_entries.new.out.items in
    let formats = subst (λ l. FormatsEntries (take at l) c.self.inside.seam from to m) c.held-held.ensures.held c.in-Ok-format_entries.ensures.well in
    subst (λ (f : Forming). FormsSettled f from to (Ok (record { at = at; seam = m }))) c.self.view_is (c.held-held.ensures.octets, c.in-Ok.ensures.settled, formats)

pub returns-in-Err-format_entries : goal.returns-in-Err-format_entries
returns-in-Err-format_entries g c =
    let h = c.self.inside.checker in
    let at = c.in-Ok.at in
    let why = c.why_after.result in
    let from = c.args.out.now.items in
    let to = c.format_entries.new.out.items in
    let s = c.self.inside.seam in
    let k = subst (λ (q : LocatedOffset). HasNoFormAfter s.above q (take at h.octets) why) c.place-place.ensures.place
    (subst (λ l. HasNoFormAfter s.above c.place-place.result (take at l) why) c.held-held.ensures.held (c.why_after.ensures s.above c.in-Err-format_entries.ensures.bad)) in
    subst (λ (f : Forming). FormsSettled f from to (Err why)) c.self.view_is (settled_forms h s at why from to c.held-held.ensures.octets c.in-Ok.ensures.settled k)

pub returns-in-Ok-format_last : goal.returns-in-Ok-format_last
returns-in-Ok-format_last g c = λ all written more x m.
    let h = c.self.inside.checker in
    let s = c.self.inside.seam in
    let from = c.args.out.now.items in
    let to = c.format_last.new.out.items in
    let formats = subst (λ l. FormatsLast l s from to) c.held-held.ensures.held c.in-Ok-format_last.ensures.well in
    absurd (never_formed h s c.in-Err.found from to c.in-Err.ensures.settled formats all written (subst (FormedSoFar all written) (sym c.self.view_is) x))

pub returns-in-Err-format_last : goal.returns-in-Err-format_last
returns-in-Err-format_last g c =
    let h = c.self.inside.checker in
    let s = c.self.inside.seam in
    let why = c.why_after-in-Err-format_last.result in
    let from = c.args.out.now.items in
    let to = c.format_last.new.out.items in
    let bad = c.in-Err.ensures.settled in
    let k = subst (λ (q : LocatedOffset). HasNoFormAfter s.above q h.octets why) c.place-place.ensures.place
    (subst (λ l. HasNoFormAfter s.above c.place-place.result l why) c.held-held.ensures.held (c.why_after-in-Err-format_last.ensures s.above c.in-Err-format_last.ensures.bad)) in
    subst (λ (f : Forming). FormsSettled f from to (Err why)) c.self.view_is (bad_forms h s bad.0 why from to c.held-held.ensures.octets bad.1 k)
