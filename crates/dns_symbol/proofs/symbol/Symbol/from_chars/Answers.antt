use Rattle.std.proofs.Common.{arith, ◌+◌, ◌<◌, [], ◌∷◌, refl, sym, ◌∙◌, ap}
use Rattle.dns_symbol.proofs.Refused.{cut_one, cut_two, refused_second, refused_third, refused_fourth, refused_value, hundreds_of, tens_of, ones_of, digit_of, digit_from, step_at, no_digit_from}
use Rattle.std.proofs.lemmas.Bool.Decides.{nat_tests}
use Rattle.dns_symbol.proofs.symbol.Symbol.from_chars.Goals as goal

pub returns-in_default-next-clause-reads : goal.returns-in_default-next-clause-reads
returns-in_default-next-clause-reads g c =
    (92 ∷ [], refl, (c.next.new.self, (c.next.new.self, rw c.if-first-ne92.false at c.in-Some.ensures.steps, refl), c.in_default-next.ensures.steps))

pub returns-in_default-second-clause-reads : goal.returns-in_default-second-clause-reads
returns-in_default-second-clause-reads g c = (
  92 ∷ c.in-Some-next.second ∷ [],
  refused_second c.in-Some-next.second (grind (arith, nat_tests)),
  (c.next.new.self, rw c.if-first-ne92.false at c.in-Some.ensures.steps, (c.next-2.new.self, c.in-Some-next.ensures.steps, refl)),
)

pub returns-in_default-second-2-clause-reads : goal.returns-in_default-second-2-clause-reads
returns-in_default-second-2-clause-reads g c = (
  92 ∷ c.in-Some-next.second ∷ [],
  refused_second c.in-Some-next.second (grind (arith, nat_tests)),
  (c.next.new.self, rw c.if-first-ne92.false at c.in-Some.ensures.steps, (c.next-2.new.self, c.in-Some-next.ensures.steps, refl)),
)

pub returns-in_default-next-2-clause-reads : goal.returns-in_default-next-2-clause-reads
returns-in_default-next-2-clause-reads g c =
    let small_hundreds : c.in-Some-to_digit.hundreds < 10 = omega (arith, c.in-Some-to_digit.ensures.value.0, c.in-Some-to_digit.ensures.value.1) in (
      92 ∷ c.in-Some-next.second ∷ [],
      cut_one c.in-Some-next.second (digit_from _ _ c.in-Some-to_digit.ensures.cases small_hundreds),
      (
        c.next-2.new.self,
        (c.next.new.self, rw c.if-first-ne92.false at c.in-Some.ensures.steps, (c.next-2.new.self, c.in-Some-next.ensures.steps, refl)),
        c.in_default-next-2.ensures.steps,
      ),
    )

pub returns-in_default-to_digit-2-clause-reads : goal.returns-in_default-to_digit-2-clause-reads
returns-in_default-to_digit-2-clause-reads g c =
    let small_hundreds : c.in-Some-to_digit.hundreds < 10 = omega (arith, c.in-Some-to_digit.ensures.value.0, c.in-Some-to_digit.ensures.value.1) in (
      92 ∷ c.in-Some-next.second ∷ c.in-Some-next-2.third ∷ [],
      refused_third c.in-Some-next.second c.in-Some-next-2.third
          (digit_from _ _ c.in-Some-to_digit.ensures.cases small_hundreds) (no_digit_from c.in-Some-next-2.third c.in_default-to_digit-2.ensures.cases),
      (
        c.next.new.self,
        rw c.if-first-ne92.false at c.in-Some.ensures.steps,
        (c.next-2.new.self, c.in-Some-next.ensures.steps, (c.next-3.new.self, c.in-Some-next-2.ensures.steps, refl)),
      ),
    )

pub returns-in_default-next-3-clause-reads : goal.returns-in_default-next-3-clause-reads
returns-in_default-next-3-clause-reads g c =
    let small_hundreds : c.in-Some-to_digit.hundreds < 10 = omega (arith, c.in-Some-to_digit.ensures.value.0, c.in-Some-to_digit.ensures.value.1) in
    let small_tens : c.in-Some-to_digit-2.tens < 10 = omega (arith, c.in-Some-to_digit-2.ensures.value.0, c.in-Some-to_digit-2.ensures.value.1) in (
      92 ∷ c.in-Some-next.second ∷ c.in-Some-next-2.third ∷ [],
      cut_two c.in-Some-next.second c.in-Some-next-2.third
          (digit_from _ _ c.in-Some-to_digit.ensures.cases small_hundreds) (digit_from _ _ c.in-Some-to_digit-2.ensures.cases small_tens),
      (
        c.next-3.new.self,
        (
          c.next.new.self,
          rw c.if-first-ne92.false at c.in-Some.ensures.steps,
          (c.next-2.new.self, c.in-Some-next.ensures.steps, (c.next-3.new.self, c.in-Some-next-2.ensures.steps, refl)),
        ),
        c.in_default-next-3.ensures.steps,
      ),
    )

pub returns-in_default-to_digit-3-clause-reads : goal.returns-in_default-to_digit-3-clause-reads
returns-in_default-to_digit-3-clause-reads g c =
    let small_hundreds : c.in-Some-to_digit.hundreds < 10 = omega (arith, c.in-Some-to_digit.ensures.value.0, c.in-Some-to_digit.ensures.value.1) in
    let small_tens : c.in-Some-to_digit-2.tens < 10 = omega (arith, c.in-Some-to_digit-2.ensures.value.0, c.in-Some-to_digit-2.ensures.value.1) in (
      92 ∷ c.in-Some-next.second ∷ c.in-Some-next-2.third ∷ c.in-Some-next-3.fourth ∷ [],
      refused_fourth c.in-Some-next.second c.in-Some-next-2.third c.in-Some-next-3.fourth
          (digit_from _ _ c.in-Some-to_digit.ensures.cases small_hundreds) (digit_from _ _ c.in-Some-to_digit-2.ensures.cases small_tens)
          (no_digit_from c.in-Some-next-3.fourth c.in_default-to_digit-3.ensures.cases),
      (
        c.next.new.self,
        rw c.if-first-ne92.false at c.in-Some.ensures.steps,
        (c.next-2.new.self, c.in-Some-next.ensures.steps, (c.next-3.new.self, c.in-Some-next-2.ensures.steps, (c.next-4.new.self, c.in-Some-next-3.ensures.steps, refl))),
      ),
    )

pub returns-then-octet-gt255-clause-reads : goal.returns-then-octet-gt255-clause-reads
returns-then-octet-gt255-clause-reads g c =
    let small_hundreds : c.in-Some-to_digit.hundreds < 10 = omega (arith, c.in-Some-to_digit.ensures.value.0, c.in-Some-to_digit.ensures.value.1) in
    let small_tens : c.in-Some-to_digit-2.tens < 10 = omega (arith, c.in-Some-to_digit-2.ensures.value.0, c.in-Some-to_digit-2.ensures.value.1) in
    let small_ones : c.in-Some-to_digit-3.ones < 10 = omega (arith, c.in-Some-to_digit-3.ensures.value.0, c.in-Some-to_digit-3.ensures.value.1) in (
      92 ∷ (48 + c.in-Some-to_digit.hundreds) ∷ (48 + c.in-Some-to_digit-2.tens) ∷ (48 + c.in-Some-to_digit-3.ones) ∷ [],
      refused_value c.in-Some-to_digit.hundreds c.in-Some-to_digit-2.tens c.in-Some-to_digit-3.ones small_hundreds small_tens small_ones (omega arith),
      (
        c.next.new.self,
        rw c.if-first-ne92.false at c.in-Some.ensures.steps,
        (
          c.next-2.new.self,
          step_at g.C.Iterator.next_gives c.next.new.self c.next-2.new.self _ _
              (digit_of _ _ c.in-Some-to_digit.ensures.cases small_hundreds) c.in-Some-next.ensures.steps,
          (
            c.next-3.new.self,
            step_at g.C.Iterator.next_gives c.next-2.new.self c.next-3.new.self _ _
                (digit_of _ _ c.in-Some-to_digit-2.ensures.cases small_tens) c.in-Some-next-2.ensures.steps,
            (
              c.next-4.new.self,
              step_at g.C.Iterator.next_gives c.next-3.new.self c.next-4.new.self _ _ (digit_of _ _ c.in-Some-to_digit-3.ensures.cases small_ones) c.in-Some-next-3.ensures.steps,
              refl,
            ),
          ),
        ),
      ),
    )

pub returns-clause-reads : goal.returns-clause-reads
returns-clause-reads g c =
    let small_hundreds : c.in-Some-to_digit.hundreds < 10 = omega (arith, c.in-Some-to_digit.ensures.value.0, c.in-Some-to_digit.ensures.value.1) in
    let small_tens : c.in-Some-to_digit-2.tens < 10 = omega (arith, c.in-Some-to_digit-2.ensures.value.0, c.in-Some-to_digit-2.ensures.value.1) in
    let small_ones : c.in-Some-to_digit-3.ones < 10 = omega (arith, c.in-Some-to_digit-3.ensures.value.0, c.in-Some-to_digit-3.ensures.value.1) in (
      grind (arith, nat_tests),
      (
        c.next.new.self,
        rw c.if-first-ne92.false at c.in-Some.ensures.steps,
        (
          c.next-2.new.self,
          step_at g.C.Iterator.next_gives c.next.new.self c.next-2.new.self _ _ (digit_of _ _ c.in-Some-to_digit.ensures.cases small_hundreds
              ∙ ap (λ n. 48 + n) (sym (hundreds_of c.in-Some-to_digit.hundreds c.in-Some-to_digit-2.tens c.in-Some-to_digit-3.ones small_tens small_ones)))
              c.in-Some-next.ensures.steps,
          (
            c.next-3.new.self,
            step_at g.C.Iterator.next_gives c.next-2.new.self c.next-3.new.self _ _
                (digit_of _ _ c.in-Some-to_digit-2.ensures.cases small_tens ∙ ap (λ n. 48 + n) (sym (tens_of c.in-Some-to_digit.hundreds c.in-Some-to_digit-2.tens
                c.in-Some-to_digit-3.ones small_hundreds small_tens small_ones))) c.in-Some-next-2.ensures.steps,
            (
              c.next-4.new.self,
              step_at g.C.Iterator.next_gives c.next-3.new.self c.next-4.new.self _ _ (digit_of _ _ c.in-Some-to_digit-3.ensures.cases small_ones
                  ∙ ap (λ n. 48 + n) (sym (ones_of c.in-Some-to_digit.hundreds c.in-Some-to_digit-2.tens c.in-Some-to_digit-3.ones small_ones))) c.in-Some-next-3.ensures.steps,
              refl,
            ),
          ),
        ),
      ),
    )
