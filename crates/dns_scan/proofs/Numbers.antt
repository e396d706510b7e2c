-- From the calls at the symbols of a token to the number that they are.
use Rattle.std.proofs.Common.{ℕ, zero, suc, ◌≡◌, ◌<◌, ◌≤◌, ◌+◌, ◌*◌, ◌^◌, List, [], ◌∷◌, ◌++◌}
use Rattle.std.proofs.Common.{length, length-append, map, refl, sym, ap, subst, ◌∙◌, arith, append_assoc, append-nil, inl, inr, ⊎_elim, Option, Some, None, Result, Ok, Err}
use Rattle.std.proofs.lemmas.Nat.{pow-add}
use Rattle.std.proofs.lemmas.Bool.{cases_lt}
use Rattle.std.proofs.Math.Nat.{add-mul, mul_assoc}
use Rattle.std.specs.Prelude.{IsErr, MatchOption, IfOk}
use Rattle.dns_symbol.specs.declared.symbol.Symbol.{Symbol}
use Rattle.dns_symbol.specs.declared.error.SymbolCharsError.{SymbolCharsError}
use Rattle.dns_symbol.specs.Cause.{Cause, end_of_entry, IsCause}
use Rattle.dns_scan.specs.Asks.{CallsEachSymbol, CallsEach, EndsAfterSymbols, ScansSymbols}
use Rattle.dns_scan.specs.Tokens.{Token, ScansToken}
use Rattle.dns_scan.specs.Numbers.{plain_digit_of, value_of, IsNumber, ReadsNumber, ScannedNumber, AddsDigit, by_cause}

-- digits before others count by the others' power of ten
pub value_of-append : (cs bs : List ℕ) → value_of (cs ++ bs) ≡ value_of cs * 10 ^ length bs + value_of bs
value_of-append [] bs = omega arith
value_of-append (a ∷ cs) bs =
    let more = value_of-append cs bs in
    let power : 10 ^ length (cs ++ bs) ≡ 10 ^ length cs * 10 ^ length bs = ap (λ n. 10 ^ n) (length-append cs bs) ∙ pow-add 10 (length cs) (length bs) in
    let first : a * 10 ^ length (cs ++ bs) ≡ (a * 10 ^ length cs) * 10 ^ length bs = ap (λ n. a * n) power ∙ sym (mul_assoc a (10 ^ length cs) (10 ^ length bs)) in
    omega (arith, more, first, add-mul (a * 10 ^ length cs) (value_of cs) (10 ^ length bs))

value_of-snoc : (ds : List ℕ) (d : ℕ) → value_of (ds ++ d ∷ []) ≡ value_of ds * 10 + d
value_of-snoc ds d = omega (arith, value_of-append ds (d ∷ []))

-- digits of symbols side by side
plain_append : (xs ys : List Symbol) (cs bs : List ℕ) → map plain_digit_of xs ≡ map Some cs → map plain_digit_of ys ≡ map Some bs → map plain_digit_of (xs ++ ys) ≡ map Some (cs ++ bs)
plain_append [] ys [] bs e f = f
plain_append [] ys (a ∷ cs) bs e f = cc
plain_append (x ∷ xs) ys [] bs e f = cc
plain_append (x ∷ xs) ys (a ∷ cs) bs e f =
    let first : plain_digit_of x ≡ Some a = cc in
    let others : map plain_digit_of xs ≡ map Some cs = cc in
    (λ i. first i ∷ plain_append xs ys cs bs others f i)

-- the digits of a beginning, of the symbol after it, and of the rest
record Parted (front : List Symbol) (next : Symbol) (digits : List ℕ) : Type 0 where
  before : List ℕ
  digit : ℕ
  after : List ℕ
  whole : digits ≡ before ++ digit ∷ after
  plain : map plain_digit_of front ≡ map Some before
  is : plain_digit_of next ≡ Some digit

parted : (front rest : List Symbol) (next : Symbol) (digits : List ℕ) → map plain_digit_of (front ++ next ∷ rest) ≡ map Some digits → Parted front next digits
parted [] rest next [] e = cc
parted [] rest next (d ∷ ds) e = let first : plain_digit_of next ≡ Some d = cc in record { before = []; digit = d; after = ds; whole = refl; plain = refl; is = first }
parted (x ∷ xs) rest next [] e = cc
parted (x ∷ xs) rest next (d ∷ ds) e =
    let first : plain_digit_of x ≡ Some d = cc in
    let others : map plain_digit_of (xs ++ next ∷ rest) ≡ map Some ds = cc in
    let more = parted xs rest next ds others in
    record { before = d ∷ more.before; digit = more.digit; after = more.after; whole = ap (λ l. d ∷ l) more.whole; plain = (λ i. first i ∷ more.plain i); is = more.is }

same_digits : (xs : List Symbol) (cs bs : List ℕ) → map plain_digit_of xs ≡ map Some cs → map plain_digit_of xs ≡ map Some bs → cs ≡ bs
same_digits [] [] [] e f = refl
same_digits [] [] (b ∷ bs) e f = cc
same_digits [] (a ∷ cs) bs e f = cc
same_digits (x ∷ xs) [] bs e f = cc
same_digits (x ∷ xs) (a ∷ cs) [] e f = cc
same_digits (x ∷ xs) (a ∷ cs) (b ∷ bs) e f =
    let first : a ≡ b = cc in
    let left : map plain_digit_of xs ≡ map Some cs = cc in
    let right : map plain_digit_of xs ≡ map Some bs = cc in
    (λ i. first i ∷ same_digits xs cs bs left right i)

-- a number has one value
pub one_value : (limit : ℕ) (xs : List Symbol) (v w : ℕ) → IsNumber limit xs v → IsNumber limit xs w → v ≡ w
one_value limit xs v w p q = p.value ∙ ap value_of (same_digits xs p.digits q.digits p.plain q.plain) ∙ sym q.value

module _ (limit : ℕ) where
  pub number_none : IsNumber limit [] 0
  number_none = record { digits = []; plain = refl; value = refl; small = omega arith }

  pub number_more : (front : List Symbol) (x : Symbol) (v d : ℕ) → IsNumber limit front v → plain_digit_of x ≡ Some d → v * 10 + d ≤ limit → IsNumber limit (front ++ x ∷ []) (v * 10 + d)
  number_more front x v d n is small = record {
    digits = n.digits ++ d ∷ [];
    plain = plain_append front (x ∷ []) n.digits (d ∷ []) n.plain (λ i. is i ∷ []);
    value = omega (arith, n.value, value_of-snoc n.digits d);
    small = small;
  }

  -- a number is extended to a longer one by a digit that fits
  goes_on : (front rest : List Symbol) (next : Symbol) (v w : ℕ) → IsNumber limit front v → IsNumber limit (front ++ next ∷ rest) w → (d : ℕ) × (plain_digit_of next ≡ Some d) × (v * 10 + d ≤ limit)
  goes_on front rest next v w n m =
      let parts = parted front rest next m.digits m.plain in
      let before : value_of parts.before ≡ v = ap value_of (same_digits front parts.before n.digits parts.plain n.plain) ∙ sym n.value in
      let count = ap value_of parts.whole in
      let split = value_of-append (parts.before ++ parts.digit ∷ []) parts.after in
      let one = value_of-snoc parts.before parts.digit in
      let joined = ap value_of (append_assoc parts.before (parts.digit ∷ []) parts.after) in
      let great = at_least (value_of (parts.before ++ parts.digit ∷ [])) (length parts.after) in
      (parts.digit, parts.is, omega (arith, before, count, split, one, joined, great, m.value, m.small))
    where
      positive : (k : ℕ) → 1 ≤ 10 ^ k
      positive zero = omega arith
      positive (suc k) = let below = positive k in let power : 10 ^ (1 + k) ≡ 10 ^ 1 * 10 ^ k = pow-add 10 1 k in let same : 10 ^ suc k ≡ 10 ^ (1 + k) = ap (λ n. 10 ^ n)
          (omega arith) in omega (arith, below, power, same)

      at_least : (n k : ℕ) → n ≤ n * 10 ^ k
      at_least n k = times n (10 ^ k) (positive k)
        where
          times : (n m : ℕ) → 1 ≤ m → n ≤ n * m
          times zero m h = omega arith
          times (suc n) m h = let below = times n m h in let step : suc n * m ≡ m + n * m = ap (λ l. l * m) (omega arith) ∙ add-mul 1 n m ∙ omega arith in omega (arith, below, step)

  -- so a number that can't be extended is the longest
  no_number : (front rest : List Symbol) (next : Symbol) (v : ℕ) → IsNumber limit front v → ((d : ℕ) → plain_digit_of next ≡ Some d → limit < v * 10 + d)
      → (longer others : List Symbol) (w : ℕ) → front ++ next ∷ rest ≡ longer ++ others → IsNumber limit longer w → length longer ≤ length front
  no_number front rest next v n stops longer others w whole m =
      ⊎_elim
      (λ lt. let cut = cut_at front (next ∷ rest) longer others whole lt in
      absurd (stopped cut.0 cut.1))
      (λ ge. ge)
      (cases_lt (length front) (length longer))
    where
      -- a longer prefix begins with the shorter one
      cut_at : (front back longer others : List Symbol) → front ++ back ≡ longer ++ others → length front < length longer
          → (y : Symbol) × ((more : List Symbol) × (longer ≡ front ++ y ∷ more) × (back ≡ (y ∷ more) ++ others))
      cut_at [] back [] others e lt = absurd (omega arith)
      cut_at [] back (y ∷ ys) others e lt = (y, (ys, refl, e))
      cut_at (x ∷ xs) back [] others e lt = absurd (omega arith)
      cut_at (x ∷ xs) back (y ∷ ys) others e lt =
          let same : x ≡ y = cc in
          let tails : xs ++ back ≡ ys ++ others = cc in
          let more = cut_at xs back ys others tails (omega (arith, lt)) in
          (more.0, (more.1.0, (λ i. sym same i ∷ more.1.1 i), more.1.2))

      stopped : (y : Symbol) → ((more : List Symbol) × (longer ≡ front ++ y ∷ more) × (next ∷ rest ≡ (y ∷ more) ++ others)) → ⊥
      stopped y cut =
          let same : y ≡ next = cc in
          let on = goes_on front cut.0 y v w n (subst (λ l. IsNumber limit l w) cut.1 m) in
          let great = stops on.0 (ap plain_digit_of (sym same) ∙ on.1) in
          omega (arith, great, on.2)

  module _ {E : Type 0} (cause : E → Cause) where
    -- the value after the calls, or the error
    abbrev pub left : Result (Unit {0}) E → ℕ → Result ℕ E
    left (Ok u) w = Ok w
    left (Err e) w = Err e

    reads_on : (xs front : List Symbol) (v w : ℕ) (u : Result (Unit {0}) E) (error : Option SymbolCharsError) → IsNumber limit front v
        → CallsEach (AddsDigit cause limit) xs (EndsAfterSymbols cause error) v u w → ReadsNumber limit (front ++ xs) error (by_cause cause (left u w))
    reads_on [] front v w (Ok u) None n h = (subst (λ l. IsNumber limit l w) (sym (append-nil front)) (subst (λ x. IsNumber limit front x) (sym h.0) n), refl)
    reads_on [] front v w (Ok u) (Some x) n h = absurd h.1
    reads_on [] front v w (Err e) None n h = let z = h.1 in cc
    reads_on [] front v w (Err e) (Some x) n h = inr (v, x, subst (λ l. IsNumber limit l v) (sym (append-nil front)) n, refl, h.1)
    reads_on (x ∷ xs) front v w u error n h =
        ⊎_elim
        (λ k.
        let one = number_more front x v k.1.0 n k.1.1 (omega (arith, k.1.2, k.1.3)) in
        subst (λ l. ReadsNumber limit l error (by_cause cause (left u w))) (append_assoc front (x ∷ []) xs)
        (reads_on xs (front ++ x ∷ []) k.0 w u error (subst (λ m. IsNumber limit (front ++ x ∷ []) m) (sym k.1.2) one) k.2))
        (λ k. refused u k.0 k.1)
        h
      where
        refused : (u : Result (Unit {0}) E) → IsErr u → AddsDigit cause limit v x u w → ReadsNumber limit (front ++ x ∷ xs) error (by_cause cause (left u w))
        refused (Ok y) is k = cc
        refused (Err e) is k = inl (record { front = front; next = x; rest = xs; value = v; whole = refl; number = n; longest = no_number front xs x v n k.2; refusal = k.1 })

    -- the calls of a closure over a value, as the value sees them
    module _ {F : Type 0} (step : F → Symbol → Result (Unit {0}) E → F → Type 0) (view : F → ℕ) (I : F → Type 0)
        (acts : (f : F) (x : Symbol) (r : Result (Unit {0}) E) (h : F) → I f → step f x r h → I h × AddsDigit cause limit (view f) x r (view h)) where
      calls_kept : (xs : List Symbol) (Last : Result (Unit {0}) E → Type 0) (f : F) (r : Result (Unit {0}) E) (h : F) → I f → CallsEach step xs Last f r h
          → I h × CallsEach (AddsDigit cause limit) xs Last (view f) r (view h)
      calls_kept [] Last f r h i k = (subst I (sym k.0) i, (ap view k.0, k.1))
      calls_kept (x ∷ xs) Last f r h i (inl k) =
          let now = acts f x (Ok tt) k.0 i k.1 in
          let later = calls_kept xs Last k.0 r h now.0 k.2 in
          (later.0, inl (view k.0, now.1, later.1))
      calls_kept (x ∷ xs) Last f r h i (inr k) = let now = acts f x r h i k.1 in (now.0, inr (k.0, now.1))

      -- what a closure from 0 on read of a token
      pub asks_number : (t : Token) (f : F) (u : Result (Unit {0}) E) (h : F) → I f → view f ≡ 0 → CallsEachSymbol cause step t f u h → I h × ScannedNumber cause limit t (left u (view h))
      asks_number t f u h i z asks =
          let kept = calls_kept asks.symbols (EndsAfterSymbols cause asks.error) f u h i asks.asked in
          let from : CallsEach (AddsDigit cause limit) asks.symbols (EndsAfterSymbols cause asks.error) 0 u (view h) =
          subst (λ v. CallsEach (AddsDigit cause limit) asks.symbols (EndsAfterSymbols cause asks.error) v u (view h)) z kept.1 in
          (kept.0, record { symbols = asks.symbols; error = asks.error; read = asks.read; reads = reads_on asks.symbols [] 0 (view h) u asks.error number_none from })

-- keeps is what the calls keep of the state that they began with
module _ {S E F : Type 0} {next : S → Option Token → S → Type 0} {cause : E → Cause} {step : F → Symbol → Result (Unit {0}) E → F → Type 0} {s t : S} {f h : F} (limit : ℕ)
    (view : F → ℕ) (keeps : F → F → Type 0) where
  pub number_after_ok : ScansSymbols next cause step s f (Ok tt) t h → keeps f f → view f ≡ 0
      → ((q : F) (x : Symbol) (r : Result (Unit {0}) E) (p : F) → keeps f q → step q x r p → keeps f p × AddsDigit cause limit (view q) x r (view p))
      → keeps f h × ScansToken next cause (ScannedNumber cause limit) s (Ok (view h)) t
  number_after_ok k i z acts = by k.token k.taken k.answer
    where
      by : (o : Option Token) → next s o t → MatchOption o (IsCause {V = Unit {0}} cause (Ok tt) end_of_entry × (h ≡ f)) (λ t. CallsEachSymbol cause step t f (Ok tt) h)
          → keeps f h × ScansToken next cause (ScannedNumber cause limit) s (Ok (view h)) t
      by None taken a = absurd a.0
      by (Some x) taken a =
          let read = asks_number limit cause step view (keeps f) acts x f (Ok tt) h i z a in
          (read.0, record { token = Some x; taken = taken; answer = read.1 })

  pub number_after_err : (e : E) → ScansSymbols next cause step s f (Err e) t h → keeps f f → view f ≡ 0
      → ((q : F) (x : Symbol) (r : Result (Unit {0}) E) (p : F) → keeps f q → step q x r p → keeps f p × AddsDigit cause limit (view q) x r (view p))
      → ScansToken next cause (ScannedNumber cause limit) s (Err e) t
  number_after_err e k i z acts = by k.token k.taken k.answer
    where
      by : (o : Option Token) → next s o t → MatchOption o (IsCause {V = Unit {0}} cause (Err e) end_of_entry × (h ≡ f)) (λ t. CallsEachSymbol cause step t f (Err e) h)
          → ScansToken next cause (ScannedNumber cause limit) s (Err e) t
      by None taken a = record { token = None; taken = taken; answer = a.0 }
      by (Some x) taken a =
          let read = asks_number limit cause step view (keeps f) acts x f (Err e) h i z a in
          record { token = Some x; taken = taken; answer = read.1 }

-- a number that was scanned is at most its limit
pub scanned_small : {S E : Type 0} (next : S → Option Token → S → Type 0) (cause : E → Cause) (limit : ℕ) (old : S) (r : Result ℕ E) (new : S)
    → ScansToken next cause (ScannedNumber cause limit) old r new → IfOk r (λ v. v ≤ limit)
scanned_small next cause limit old (Err e) new h = tt
scanned_small next cause limit old (Ok v) new h = by h.token h.answer
  where
    by : (o : Option Token) → MatchOption o (IsCause {V = ℕ} cause (Ok v) end_of_entry) (λ t. ScannedNumber cause limit t (Ok v)) → v ≤ limit
    by None a = absurd a
    by (Some x) a = a.reads.0.small
