use Rattle.std.proofs.Common.{◌≡◌, ℕ, ◌<◌, ◌≤◌, List, length, get_or, arith, rules, sym, lit≤}
use Rattle.std.proofs.lemmas.List.{get_or_past}
use Rattle.std.specs.Char.{digit_value}
use Rattle.rdata_fields.proofs.AddressReads.{more_digits, group_fits, segment_at, segment_long, segment_none}
use Rattle.rdata_fields.proofs.addresses.read_segment.Goals.{else-loop-octet-test, then-loop-octet-test+in_default}
use Rattle.rdata_fields.proofs.addresses.read_segment.Goals as goal

-- the loop ends at the end of the text, or at an octet that is not a digit
past : (s : List ℕ) (i j : ℕ) → i ≡ j → length s ≤ j → 16 ≤ digit_value (get_or s i 0)
past s i j same end = rw (same, get_or_past s j 0 end) (lit≤ tt)

other : (s : List ℕ) (i j : ℕ) → i ≡ j → ¬ (digit_value (get_or s j 0) < 16) → 16 ≤ digit_value (get_or s i 0)
other s i j same h = rw same (let d = digit_value (get_or s j 0) in omega arith)

pub returns-then-len-eq4 : goal.returns-then-len-eq4
returns-then-len-eq4 c =
    let i = c.loop-octet.invariant in
    let h = more_digits 16 c.args.text.now _ _ c.loop-octet.value c.in-Some.digit i.0 c.loop-octet-test.true i.1 i.2 c.in-Some.ensures in
    sym (segment_long c.args.text.now (omega arith) (rw c.if-len-eq4.true at h.0))

pub overflow_mul-value : goal.overflow_mul-value
overflow_mul-value c =
    let i = c.loop-octet.invariant in
    let fits = group_fits c.args.text.now c.loop-octet.len c.loop-octet.value (omega arith) i.3 i.1 i.2 in
    search (rules, arith)

pub overflow_add-value : goal.overflow_add-value
overflow_add-value c =
    let i = c.loop-octet.invariant in
    let fits = group_fits c.args.text.now c.loop-octet.len c.loop-octet.value (omega arith) i.3 i.1 i.2 in
    let small : c.in-Some.digit < 16 = omega (arith, c.in-Some.ensures.0, c.in-Some.ensures.1) in
    search (rules, arith)

pub loop-octet-preserved : goal.loop-octet-preserved
loop-octet-preserved c =
    let i = c.loop-octet.invariant in
    let h = more_digits 16 c.args.text.now _ _ c.loop-octet.value c.in-Some.digit i.0 c.loop-octet-test.true i.1 i.2 c.in-Some.ensures in
    (omega arith, h.0, h.1, omega (arith, i.3, c.if-len-eq4.false))

pub returns-then-len-eq0 : goal.returns-then-len-eq0
returns-then-len-eq0 c =
    let stop : 16 ≤ digit_value (get_or c.args.text.now c.loop-octet.len 0) = elim c.loop-octet-test.branch [
      | else-loop-octet-test w ↦ past c.args.text.now c.loop-octet.len c.loop-octet.octet-index c.loop-octet.invariant.0 w.loop-octet-test.false
      | then-loop-octet-test+in_default w ↦ other c.args.text.now c.loop-octet.len c.loop-octet.octet-index c.loop-octet.invariant.0 w.in_default.ensures
    ] in
    sym (segment_none c.args.text.now (rw c.if-len-eq0.true at stop))

pub overflow_cast-result : goal.overflow_cast-result
overflow_cast-result c =
    let i = c.loop-octet.invariant in
    let fits = group_fits c.args.text.now c.loop-octet.len c.loop-octet.value (omega arith) i.3 i.1 i.2 in
    search (rules, arith)

pub returns : goal.returns
returns c =
    let i = c.loop-octet.invariant in
    let stop : 16 ≤ digit_value (get_or c.args.text.now c.loop-octet.len 0) = elim c.loop-octet-test.branch [
      | else-loop-octet-test w ↦ past c.args.text.now c.loop-octet.len c.loop-octet.octet-index i.0 w.loop-octet-test.false
      | then-loop-octet-test+in_default w ↦ other c.args.text.now c.loop-octet.len c.loop-octet.octet-index i.0 w.in_default.ensures
    ] in
    segment_at c.args.text.now c.loop-octet.len c.loop-octet.value (omega (arith, c.if-len-eq0.false)) (omega arith) i.3 i.1 i.2 stop
