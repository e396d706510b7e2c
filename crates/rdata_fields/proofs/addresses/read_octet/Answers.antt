use Rattle.std.proofs.Common.{◌≡◌, None, rules, arith, refl, lit≤}
use Rattle.std.proofs.lemmas.Grind.{common_steps}
use Rattle.std.specs.Net.Reader.{read_octet}
use Rattle.rdata_fields.proofs.AddressReads.{after_first, octet_none, one_of, two_of, zero_of, above_of, long_of, three_of, not_digit, short_stops}
use Rattle.rdata_fields.proofs.addresses.read_octet.Goals.{then-value-gt255-via-then-value-gt255, then-value-gt255-via-else-value-gt255+then-begins_with_digit}
use Rattle.rdata_fields.proofs.addresses.read_octet.Goals as goal

pub returns-in_default : goal.returns-in_default
returns-in_default c = let none : None ≡ read_octet c.args.text.now = (let is = octet_none c.args.text.now (short_stops 10 c.args.text.now (lit≤ tt) (omega (arith, c.in_default.len_below))) in cc) in none

pub returns-in_err-a : goal.returns-in_err-a
returns-in_err-a c =
    let none : read_octet c.args.text.now ≡ None = octet_none c.args.text.now (not_digit 10 _ c.in_err-a.ensures) in
    first_of (search rules, grind (arith, common_steps))

pub returns-in_default-after_one : goal.returns-in_default-after_one
returns-in_default-after_one c = one_of c.args.text.now c.in_ok-a.a c.in_ok-a.ensures (short_stops 10 (after_first c.args.text.now) (lit≤ tt) (omega (arith, c.in_default-after_one.len_below)))

pub returns-in_default-decimal_digit : goal.returns-in_default-decimal_digit
returns-in_default-decimal_digit c = one_of c.args.text.now c.in_ok-a.a c.in_ok-a.ensures (not_digit 10 _ c.in_default-decimal_digit.ensures)

pub returns-then-a-eq0 : goal.returns-then-a-eq0
returns-then-a-eq0 c = zero_of c.args.text.now c.in_ok-a.a c.in-Some.b c.in_ok-a.ensures c.in-Some.ensures c.if-a-eq0.true

pub returns-in_default-after_two : goal.returns-in_default-after_two
returns-in_default-after_two c = two_of c.args.text.now c.in_ok-a.a c.in-Some.b c.in_ok-a.ensures c.in-Some.ensures c.if-a-eq0.false (short_stops 10 (after_first (after_first c.args.text.now)) (lit≤ tt) (omega (arith, c.in_default-after_two.len_below)))

pub returns-in_default-decimal_digit-2 : goal.returns-in_default-decimal_digit-2
returns-in_default-decimal_digit-2 c = two_of c.args.text.now c.in_ok-a.a c.in-Some.b c.in_ok-a.ensures c.in-Some.ensures c.if-a-eq0.false (not_digit 10 _ c.in_default-decimal_digit-2.ensures)

pub returns-then-value-gt255 : goal.returns-then-value-gt255
returns-then-value-gt255 c =
    elim c.then-value-gt255.branch [
      | then-value-gt255-via-then-value-gt255 w ↦ above_of c.args.text.now c.in_ok-a.a c.in-Some.b c.in-Some-decimal_digit.c c.in_ok-a.ensures c.in-Some.ensures c.in-Some-decimal_digit.ensures w.if-value-gt255.true
      | then-value-gt255-via-else-value-gt255+then-begins_with_digit w ↦
          long_of c.args.text.now c.in_ok-a.a c.in-Some.b c.in-Some-decimal_digit.c c.in_ok-a.ensures c.in-Some.ensures c.in-Some-decimal_digit.ensures c.if-a-eq0.false (w.if-begins_with_digit.ensures.0 refl)
    ]

pub returns : goal.returns
returns c =
    three_of c.args.text.now c.in_ok-a.a c.in-Some.b c.in-Some-decimal_digit.c c.in_ok-a.ensures c.in-Some.ensures c.in-Some-decimal_digit.ensures c.if-a-eq0.false c.if-value-gt255.false
    (not_digit 10 _ (λ d. let no = c.if-begins_with_digit.ensures.1 d in cc))
