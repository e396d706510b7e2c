-- What the readers of addresses find at digits.
use Rattle.std.proofs.Common.{◌≡◌, ◌≢◌, ℕ, zero, suc, ◌+◌, ◌-◌, ◌*◌, ◌^◌, ◌<◌, ◌≤◌, ◌==◌, nat_lt, Bool, true, false, ◌&&◌, List, [], ◌∷◌, ◌++◌, length, get_or, take, drop, Option, Some, None, ok_or, decimal, refl, sym, ap, ◌∙◌, arith, drop_at, append_assoc, lit≤, le-ltb, lt-ltb, ne_eqb, length-take-le, take-append-drop, take_all, length-drop}
use Rattle.std.proofs.lemmas.Bool.{and_right}
use Rattle.std.proofs.lemmas.Option.{none-some}
use Rattle.std.proofs.lemmas.Fmt.{decimal_is_IsNumeral, length-decimal-le}
use Rattle.std.proofs.lemmas.Bool.Decides.{nat_tests}
use Rattle.std.proofs.lemmas.Int.Digits.{digits_value-lt, digits_more, digits_value_more}
use Rattle.std.proofs.Math.Nat.{pow-le-pow_right}
use Rattle.std.specs.Char.{digit_value}
use Rattle.std.specs.Str.Parse.{AllDigits, IsNumeral, digits_value}
use Rattle.std.specs.Int.{from_be_bytes, w16}
use Rattle.std.specs.Net.Addr.{segments_of}
use Rattle.std.specs.Net.Grammar.{Parses}
use Rattle.std.specs.Net.Text.{dotted_text}
use Rattle.std.specs.Net.Reader.{read_number, read_octet, read_ipv4, read_ipv4_if, read_segment}
use Rattle.std.proofs.NetLemmas.Options.{cond_some, same_parts}
use Rattle.std.proofs.NetLemmas.Numbers.{NoDigit, digit_count-append, read_number_some, read_number_some_at, read_number_large, read_number_empty, read_number_sound}
use Rattle.std.proofs.NetLemmas.Ipv4.{read_ipv4_sound}
use Rattle.rdata_values.specs.Kind.{ReadsKind}
use Rattle.rdata_values.specs.declared.error.ErrorKind.{ErrorKind}
use Rattle.rdata_fields.specs.Addresses.{BeginsWithSegment}

-- an octet of these digits, whose first is not a leading zero
octet_some : (ds rest : List ℕ) (v : ℕ) → IsNumeral 10 ds → digits_value 10 ds ≡ v → v ≤ 255 → NoDigit 10 rest → (nat_lt 1 (length ds) && (get_or (ds ++ rest) 0 0 == 48)) ≡ false → read_octet (ds ++ rest) ≡ Some (v, rest)
unfolding read_octet
octet_some ds rest v numeral value fits stop plain =
    rw (read_number_some 10 255 ds rest numeral (omega arith) stop, plain, drop_at ds rest _ refl, value)

pub octet_one : (a : ℕ) (rest : List ℕ) → digit_value a < 10 → NoDigit 10 rest → read_octet (a ∷ rest) ≡ Some (digit_value a, rest)
octet_one a rest first stop =
    let value : digits_value 10 (a ∷ []) ≡ 0 * 10 + digit_value a = refl in
    octet_some (a ∷ []) rest _ (omega arith, (first, tt)) (omega arith) (omega arith) stop refl

pub octet_two : (a b : ℕ) (rest : List ℕ) → digit_value a < 10 → digit_value b < 10 → a ≢ 48 → NoDigit 10 rest → read_octet (a ∷ b ∷ rest) ≡ Some (digit_value a * 10 + digit_value b, rest)
octet_two a b rest first second plain stop =
    let value : digits_value 10 (a ∷ b ∷ []) ≡ (0 * 10 + digit_value a) * 10 + digit_value b = refl in
    octet_some (a ∷ b ∷ []) rest _ (omega arith, (first, (second, tt))) (omega arith) (omega arith) stop (and_right (nat_lt 1 (length (a ∷ b ∷ []))) (a == 48) (ne_eqb a 48 plain))

pub octet_three : (a b c : ℕ) (rest : List ℕ) → digit_value a < 10 → digit_value b < 10 → digit_value c < 10 → a ≢ 48 → digit_value a * 100 + digit_value b * 10 + digit_value c ≤ 255 → NoDigit 10 rest → read_octet (a ∷ b ∷ c ∷ rest) ≡ Some (digit_value a * 100 + digit_value b * 10 + digit_value c, rest)
octet_three a b c rest first second third plain fits stop =
    let value : digits_value 10 (a ∷ b ∷ c ∷ []) ≡ ((0 * 10 + digit_value a) * 10 + digit_value b) * 10 + digit_value c = refl in
    octet_some (a ∷ b ∷ c ∷ []) rest _ (omega arith, (first, (second, (third, tt)))) (omega arith) fits stop (and_right (nat_lt 1 (length (a ∷ b ∷ c ∷ []))) (a == 48) (ne_eqb a 48 plain))

pub octet_none : (text : List ℕ) → NoDigit 10 text → read_octet text ≡ None
unfolding read_octet
octet_none text stop = rw (read_number_empty 10 255 text stop)

octet_large : (ds rest : List ℕ) → AllDigits 10 ds → 255 < digits_value 10 ds → read_octet (ds ++ rest) ≡ None
unfolding read_octet
octet_large ds rest all large = rw (read_number_large 10 255 ds rest (lit≤ tt) all large)

pub octet_above : (a b c : ℕ) (rest : List ℕ) → digit_value a < 10 → digit_value b < 10 → digit_value c < 10 → 255 < digit_value a * 100 + digit_value b * 10 + digit_value c → read_octet (a ∷ b ∷ c ∷ rest) ≡ None
octet_above a b c rest first second third large =
    let value : digits_value 10 (a ∷ b ∷ c ∷ []) ≡ ((0 * 10 + digit_value a) * 10 + digit_value b) * 10 + digit_value c = refl in
    octet_large (a ∷ b ∷ c ∷ []) rest (first, (second, (third, tt))) (omega arith)

pub octet_long : (a b c d : ℕ) (rest : List ℕ) → digit_value a < 10 → digit_value b < 10 → digit_value c < 10 → digit_value d < 10 → 0 < digit_value a → read_octet (a ∷ b ∷ c ∷ d ∷ rest) ≡ None
octet_long a b c d rest first second third fourth some =
    let value : digits_value 10 (a ∷ b ∷ c ∷ d ∷ []) ≡ (((0 * 10 + digit_value a) * 10 + digit_value b) * 10 + digit_value c) * 10 + digit_value d = refl in
    octet_large (a ∷ b ∷ c ∷ d ∷ []) rest (first, (second, (third, (fourth, tt)))) (omega arith)

-- a leading zero
pub octet_zero : (b : ℕ) (rest : List ℕ) → digit_value b < 10 → read_octet (48 ∷ b ∷ rest) ≡ None
unfolding read_octet
octet_zero b rest digit = go (read_number 10 255 (48 ∷ b ∷ rest)) refl
  where
    at : (len : ℕ) → 0 < length (take len (48 ∷ b ∷ rest)) → NoDigit 10 (drop len (48 ∷ b ∷ rest)) → 1 < len
    at zero some stop = absurd (omega arith)
    at (suc zero) some stop = let d = digit_value b in absurd (omega arith)
    at (suc (suc len)) some stop = omega arith

    go : (r : Option (ℕ × ℕ)) → read_number 10 255 (48 ∷ b ∷ rest) ≡ r → read_octet (48 ∷ b ∷ rest) ≡ None
    go None e = rw e
    go (Some n) e =
        let (number, fits, same, stop) = read_number_sound 10 255 (48 ∷ b ∷ rest) n.0 n.1 (lit≤ tt) e in
        rw (e, lt-ltb 1 n.1 (at n.1 number.0.0 stop))

-- ---- the same, at the front of a text

-- what follows the first octet
abbrev pub after_first : List ℕ → List ℕ
after_first t = take (length t - 1) (drop 1 t)

-- the text begins with a decimal digit of this value
abbrev pub BeginsWithDigit : List ℕ → ℕ → Type 0
BeginsWithDigit t v = (digit_value (get_or t 0 0) < 10) × (v ≡ digit_value (get_or t 0 0))

some_of : (t : List ℕ) → digit_value (get_or t 0 0) < 10 → 1 ≤ length t
some_of [] h = absurd (omega (arith, h))
some_of (x ∷ t) h = omega arith

cons_of : (t : List ℕ) → 1 ≤ length t → t ≡ get_or t 0 0 ∷ after_first t
cons_of [] some = absurd (omega arith)
cons_of (x ∷ t) some = sym (ap (λ r. x ∷ r) (take_all _ t (omega arith)))

digit_of : (t : List ℕ) (v : ℕ) → BeginsWithDigit t v → t ≡ get_or t 0 0 ∷ after_first t
digit_of t v h = cons_of t (some_of t h.0)

pub not_digit : (radix d : ℕ) → ¬ (d < radix) → radix ≤ d
not_digit radix d h = omega arith

pub short_stops : (radix : ℕ) (t : List ℕ) → radix ≤ 36 → length t < 1 → NoDigit radix t
short_stops radix [] small h = small
short_stops radix (x ∷ t) small h = absurd (omega arith)

zero_digit : (x : ℕ) → digit_value x ≡ 0 → x ≡ 48
zero_digit x h = grind (arith, nat_tests)

pub one_of : (t : List ℕ) (a : ℕ) → BeginsWithDigit t a → NoDigit 10 (after_first t) → Some (a, after_first t) ≡ read_octet t
one_of t a first stop = rw first.1 (sym (ap read_octet (digit_of t a first) ∙ octet_one (get_or t 0 0) (after_first t) first.0 stop))

two_digits : (t : List ℕ) (a b : ℕ) → BeginsWithDigit t a → BeginsWithDigit (after_first t) b → t ≡ get_or t 0 0 ∷ get_or (after_first t) 0 0 ∷ after_first (after_first t)
two_digits t a b first second = digit_of t a first ∙ ap (λ r. get_or t 0 0 ∷ r) (digit_of (after_first t) b second)

pub zero_of : (t : List ℕ) (a b : ℕ) → BeginsWithDigit t a → BeginsWithDigit (after_first t) b → a ≡ 0 → None ≡ read_octet t
zero_of t a b first second zero_first =
    let zero : get_or t 0 0 ≡ 48 = zero_digit _ (sym first.1 ∙ zero_first) in
    let y = get_or (after_first t) 0 0 in
    let s = after_first (after_first t) in
    sym (ap read_octet (two_digits t a b first second ∙ ap (λ x. x ∷ y ∷ s) zero) ∙ octet_zero y s second.0)

plain_of : (t : List ℕ) (a : ℕ) → BeginsWithDigit t a → a ≢ 0 → get_or t 0 0 ≢ 48
plain_of t a first some is = some (first.1 ∙ ap digit_value is)

pub two_of : (t : List ℕ) (a b : ℕ) → BeginsWithDigit t a → BeginsWithDigit (after_first t) b → a ≢ 0 → NoDigit 10 (after_first (after_first t)) → Some (a * 10 + b, after_first (after_first t)) ≡ read_octet t
two_of t a b first second some stop =
    let read = octet_two (get_or t 0 0) (get_or (after_first t) 0 0) (after_first (after_first t)) first.0 second.0 (plain_of t a first some) stop in
    rw (first.1, second.1) (sym (ap read_octet (two_digits t a b first second) ∙ read))

module _ (t : List ℕ) (a b c : ℕ) (first : BeginsWithDigit t a) (second : BeginsWithDigit (after_first t) b) (third : BeginsWithDigit (after_first (after_first t)) c) where
  three_digits : t ≡ get_or t 0 0 ∷ get_or (after_first t) 0 0 ∷ get_or (after_first (after_first t)) 0 0 ∷ after_first (after_first (after_first t))
  three_digits = two_digits t a b first second ∙ ap (λ r. get_or t 0 0 ∷ get_or (after_first t) 0 0 ∷ r) (digit_of (after_first (after_first t)) c third)

  pub above_of : 255 < a * 100 + b * 10 + c → None ≡ read_octet t
  above_of large = sym (ap read_octet three_digits ∙ octet_above _ _ _ _ first.0 second.0 third.0 (omega (arith, first.1, second.1, third.1)))

  pub long_of : a ≢ 0 → digit_value (get_or (after_first (after_first (after_first t))) 0 0) < 10 → None ≡ read_octet t
  long_of some fourth =
      let r = after_first (after_first (after_first t)) in
      let all = three_digits ∙ ap (λ s. get_or t 0 0 ∷ get_or (after_first t) 0 0 ∷ get_or (after_first (after_first t)) 0 0 ∷ s) (digit_of r _ (fourth, refl)) in
      sym (ap read_octet all ∙ octet_long _ _ _ _ _ first.0 second.0 third.0 fourth (omega (arith, first.1)))

  pub three_of : a ≢ 0 → a * 100 + b * 10 + c ≤ 255 → NoDigit 10 (after_first (after_first (after_first t))) → Some (a * 100 + b * 10 + c, after_first (after_first (after_first t))) ≡ read_octet t
  three_of some fits stop =
      let read = octet_three (get_or t 0 0) (get_or (after_first t) 0 0) (get_or (after_first (after_first t)) 0 0) _ first.0 second.0 third.0 (plain_of t a first some) (omega (arith, first.1, second.1, third.1)) stop in
      rw (first.1, second.1, third.1) (sym (ap read_octet three_digits ∙ read))

-- a group of the digits before an index
pub segment_some : (s : List ℕ) (i : ℕ) → 0 < i → i ≤ length s → i ≤ 4 → AllDigits 16 (take i s) → 16 ≤ digit_value (get_or s i 0) → read_segment s ≡ Some (digits_value 16 (take i s), drop i s)
unfolding read_segment
segment_some s i some within four all stop =
    let len = length-take-le i s within in
    let below = digits_value-lt 16 (take i s) all in
    let few : length (take i s) ≤ 4 = omega arith in
    let most : 16 ^ length (take i s) ≤ 16 ^ 4 = pow-le-pow_right (lit≤ tt) few in
    rw (read_number_some_at 16 0xffff s i some within all (omega arith) stop, le-ltb 4 i four)

pub segment_none : (s : List ℕ) → NoDigit 16 s → read_segment s ≡ None
unfolding read_segment
segment_none s stop = rw (read_number_empty 16 0xffff s stop)

-- five digits are no group
many_read : (ds rest : List ℕ) (n : ℕ × ℕ) → AllDigits 16 ds → 4 < length ds → read_number 16 0xffff (ds ++ rest) ≡ Some n → 4 < n.1
unfolding read_number
many_read ds rest n all five e =
    let (test, same) = cond_some _ _ _ e in
    omega (arith, ap (λ (p : ℕ × ℕ). p.1) same, digit_count-append 16 ds rest all)

segment_over : (ds rest : List ℕ) → AllDigits 16 ds → 4 < length ds → read_segment (ds ++ rest) ≡ None
unfolding read_segment
segment_over ds rest all five = go (read_number 16 0xffff (ds ++ rest)) refl
  where
    go : (r : Option (ℕ × ℕ)) → read_number 16 0xffff (ds ++ rest) ≡ r → read_segment (ds ++ rest) ≡ None
    go None e = rw e
    go (Some n) e = rw (e, lt-ltb 4 n.1 (many_read ds rest n all five e))

pub segment_long : (s : List ℕ) → 5 ≤ length s → AllDigits 16 (take 5 s) → read_segment s ≡ None
segment_long s long all =
    let len = length-take-le 5 s long in
    rw (take-append-drop 5 s) at (segment_over (take 5 s) (drop 5 s) all (omega arith))

-- one more digit
pub more_digits : (radix : ℕ) (s : List ℕ) (i j value digit : ℕ) → i ≡ j → j < length s → AllDigits radix (take i s) → value ≡ digits_value radix (take i s) → (digit_value (get_or s j 0) < radix) × (digit ≡ digit_value (get_or s j 0))
    → AllDigits radix (take (i + 1) s) × (value * radix + digit ≡ digits_value radix (take (i + 1) s))
more_digits radix s i j value digit same within all is h =
    let inside : i < length s = omega arith in
    (digits_more radix s i inside all (rw same h.0), rw (digits_value_more radix s i inside, is, h.1, same))

pub group_fits : (s : List ℕ) (i value : ℕ) → i ≤ length s → i ≤ 4 → AllDigits 16 (take i s) → value ≡ digits_value 16 (take i s) → value < 2 ^ 16
group_fits s i value within four all is =
    let len = length-take-le i s within in
    let below = digits_value-lt 16 (take i s) all in
    let few : length (take i s) ≤ 4 = omega arith in
    let most : 16 ^ length (take i s) ≤ 16 ^ 4 = pow-le-pow_right (lit≤ tt) few in
    omega arith

pub segment_at : (s : List ℕ) (i value : ℕ) → 0 < i → i ≤ length s → i ≤ 4 → AllDigits 16 (take i s) → value ≡ digits_value 16 (take i s) → 16 ≤ digit_value (get_or s i 0) → Some (value, take (length s - i) (drop i s)) ≡ read_segment s
segment_at s i value some within four all is stop =
    let whole = take_all (length s - i) (drop i s) (omega (arith, length-drop i s)) in
    rw (whole, is) (sym (segment_some s i some within four all stop))

wider : (ds : List ℕ) → AllDigits 10 ds → AllDigits 16 ds
wider [] h = tt
wider (d ∷ ds) h = let v = digit_value d in (omega (arith, h.0), wider ds h.1)

dotted-append : (a b c d : ℕ) (rest : List ℕ) → dotted_text a b c d ++ rest ≡ decimal a ++ 46 ∷ (decimal b ++ 46 ∷ (decimal c ++ 46 ∷ (decimal d ++ rest)))
dotted-append a b c d rest = simp append_assoc

-- a decimal octet before a dot is a group
octet_group : (a : ℕ) (more : List ℕ) → a < 256 → read_segment (decimal a ++ 46 ∷ more) ≡ Some (digits_value 16 (decimal a), 46 ∷ more)
unfolding read_segment
octet_group a more fit =
    let numeral = (decimal_is_IsNumeral a (omega (arith, fit))).0 in
    let all = wider (decimal a) numeral.1 in
    let short = length-decimal-le 3 a (lit≤ tt) (omega (arith, fit)) (omega (arith, fit)) in
    let below = digits_value-lt 16 (decimal a) all in
    let most : 16 ^ length (decimal a) ≤ 16 ^ 3 = pow-le-pow_right (lit≤ tt) short in
    let read = read_number_some 16 0xffff (decimal a) (46 ∷ more) (numeral.0, all) (omega arith) (lit≤ tt) in
    rw (read, le-ltb 4 (length (decimal a)) (omega arith), drop_at (decimal a) (46 ∷ more) _ refl)

-- an IPv4 address begins with a group before a dot
ipv4_group : (text octets rest : List ℕ) → read_ipv4 text ≡ Some (octets, rest) → (more : List ℕ) × BeginsWithSegment text (46 ∷ more)
ipv4_group text octets rest e =
    let (front, split, h) = read_ipv4_sound text octets rest e in
    let more = decimal h.b ++ 46 ∷ (decimal h.c ++ 46 ∷ (decimal h.d ++ rest)) in
    let shown : text ≡ decimal h.a ++ 46 ∷ more = split ∙ ap (λ t. t ++ rest) h.spelled ∙ dotted-append h.a h.b h.c h.d rest in
    (more, (digits_value 16 (decimal h.a), ap read_segment shown ∙ octet_group h.a more h.fit.0))

-- no group begins an IPv4 address if no dot follows it
pub ipv4_without_dot : (text rest : List ℕ) → BeginsWithSegment text rest → get_or rest 0 0 ≢ 46 → read_ipv4 text ≡ None
ipv4_without_dot text rest h other = go (read_ipv4 text) refl
  where
    go : (r : _) → read_ipv4 text ≡ r → read_ipv4 text ≡ None
    go None e = e
    go (Some p) e =
        let (more, (value, group)) = ipv4_group text p.0 p.1 e in
        let same = (same_parts h.0 value rest (46 ∷ more) (sym h.1 ∙ group)).1 in
        absurd (other (ap (λ t. get_or t 0 0) same))

pub ipv4_without_group : (text : List ℕ) → read_segment text ≡ None → read_ipv4 text ≡ None
ipv4_without_group text none = go (read_ipv4 text) refl
  where
    go : (r : _) → read_ipv4 text ≡ r → read_ipv4 text ≡ None
    go None e = e
    go (Some p) e =
        let (more, (value, group)) = ipv4_group text p.0 p.1 e in
        absurd (none-some _ (sym none ∙ group))

pub ipv4_if_none : (fits : Bool) (text : List ℕ) → read_ipv4 text ≡ None → read_ipv4_if fits text ≡ None
ipv4_if_none true text e = e
ipv4_if_none false text e = refl

pub ipv4_if_fits : (fits : Bool) (text : List ℕ) (p : List ℕ × List ℕ) → Some p ≡ read_ipv4_if fits text → fits ≡ true
ipv4_if_fits true text p e = refl
ipv4_if_fits false text p e = absurd (none-some p (sym e))

-- four octets are two segments
pub two_segments : (o : List ℕ) → length o ≡ 4 → segments_of o ≡ from_be_bytes w16 (get_or o 0 0 ∷ get_or o 1 0 ∷ []) ∷ from_be_bytes w16 (get_or o 2 0 ∷ get_or o 3 0 ∷ []) ∷ []
two_segments [] h = absurd (omega arith)
two_segments (a ∷ []) h = absurd (omega arith)
two_segments (a ∷ b ∷ []) h = absurd (omega arith)
two_segments (a ∷ b ∷ c ∷ []) h = absurd (omega arith)
two_segments (a ∷ b ∷ c ∷ d ∷ []) h =
    let high : a * 256 + b ≡ from_be_bytes w16 (a ∷ b ∷ []) = omega arith in
    let low : c * 256 + d ≡ from_be_bytes w16 (c ∷ d ∷ []) = omega arith in
    λ i. high i ∷ low i ∷ []
two_segments (a ∷ b ∷ c ∷ d ∷ e ∷ o) h = absurd (omega arith)

-- the result of parsing, with the error of a kind
pub reads_kind : {V : Type 0} (Spells : List ℕ → V → Type 0) (why : ErrorKind) (text : List ℕ) (o : Option V) → Parses Spells text (ok_or o why) → ReadsKind Spells why text (ok_or o why)
reads_kind Spells why text None h = (refl, h)
reads_kind Spells why text (Some v) h = h
