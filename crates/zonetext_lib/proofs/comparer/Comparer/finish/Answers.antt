use Rattle.std.proofs.Common.{◌≡◌, ◌+◌, sym, subst}
use Rattle.zonetext_lib.specs.Compare.{DifferAt}
use Rattle.zonetext_lib.specs.Comparing.{Compared}
use Rattle.zonetext_lib.specs.Entries.{HasTokenEntries}
use Rattle.zonetext_lib.specs.Found.{IsFound}
use Rattle.zonetext_lib.proofs.Together.{both, compared_differ, compared_same, still_well}
use Rattle.zonetext_lib.proofs.comparer.Comparer.finish.Goals as goal

pub returns-in-Same : goal.returns-in-Same
returns-in-Same g c = λ one other h.
    let a = c.self.inside.first in
    let b = c.self.inside.second in
    let here = subst (Compared one other) (sym c.self.view_is) h in
    let oa = c.held.ensures.octets in
    let ob = c.held-2.ensures.octets in
    let e = c.in-Same.ensures in
    compared_same one other (both a b) e.0 here oa ob (subst (λ l. HasTokenEntries l e.0) c.held.ensures.held e.1) (subst (λ l. HasTokenEntries l e.0) c.held-2.ensures.held e.2)

pub returns-in-Differ : goal.returns-in-Differ
returns-in-Differ g c = λ one other h.
    let a = c.self.inside.first in
    let b = c.self.inside.second in
    let here = subst (Compared one other) (sym c.self.view_is) h in
    let oa = c.held.ensures.octets in
    let ob = c.held-2.ensures.octets in
    let p = c.in-Differ.one in
    let q = c.in-Differ.other in
    let d = subst (λ l. DifferAt a.octets l p q) c.held-2.ensures.held (subst (λ l. DifferAt l c.held-2.result.now p q) c.held.ensures.held c.in-Differ.ensures.0) in
    let s = c.after_lines in
    let t = c.after_lines-in-Differ in
    compared_differ one other (both a b) p q s.result t.result here oa ob d (subst (λ n. s.result.line ≡ n + p.line) c.lines_before-ours.ensures.lines s.ensures.line) s.ensures.column
    (subst (λ n. t.result.line ≡ n + q.line) c.lines_before-theirs.ensures.lines t.ensures.line) t.ensures.column

pub returns-in-Ok : goal.returns-in-Ok
returns-in-Ok g c = λ one other h.
    let a = c.self.inside.first in
    let here = subst (Compared one other) (sym c.self.view_is) h in
    let oa = c.held.ensures.octets in
    let bad = subst (λ l. IsFound l 0 c.in-FirstWrong.field-0) c.held.ensures.held c.in-FirstWrong.ensures in
    absurd (still_well one a _ here.first oa bad.fault (c.in-Ok.ensures.well one here.first))

pub returns-in-Err : goal.returns-in-Err
returns-in-Err g c = λ one other h. c.in-Err.ensures.bad one (subst (Compared one other) (sym c.self.view_is) h).first

pub returns-in-Ok-finish : goal.returns-in-Ok-finish
returns-in-Ok-finish g c = λ one other h.
    let b = c.self.inside.second in
    let here = subst (Compared one other) (sym c.self.view_is) h in
    let ob = c.held-2.ensures.octets in
    let bad = subst (λ l. IsFound l 0 c.in-SecondWrong.field-0) c.held-2.ensures.held c.in-SecondWrong.ensures in
    absurd (still_well other b _ here.second ob bad.fault (c.in-Ok-finish.ensures.well other here.second))

pub returns-in-Err-finish : goal.returns-in-Err-finish
returns-in-Err-finish g c = λ one other h. c.in-Err-finish.ensures.bad other (subst (Compared one other) (sym c.self.view_is) h).second
