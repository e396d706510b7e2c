-- Octets copied as character strings, one after the other.
use Rattle.std.proofs.Common.{ℕ, zero, suc, ◌≡◌, ◌≢◌, ◌+◌, ◌-◌, ◌*◌, ◌<◌, ◌≤◌, List, [], ◌∷◌, ◌++◌, length, take, drop, refl, sym, ap, subst, ◌∙◌, arith, length-append, append-nil, append_assoc}
use Rattle.std.specs.Prelude.{All}
use Rattle.std.specs.List.{concat, flat_map}
use Rattle.std.proofs.lemmas.List.{length-drop, length-take-le, take-append-drop}
use Rattle.std.proofs.lemmas.List.Concat.{flat_map-append}
use Rattle.std.proofs.lemmas.List.Elements.{All-append, All-cons, All-head, All-nil, All-tail}
use Rattle.std.proofs.lemmas.List.Folds.{concat-append}
use Rattle.c_calls.specs.DataText.{PutsAt}
use Rattle.c_calls.specs.Reports.{CopiesWhole}
use Rattle.c_calls.specs.TextData.{AreStringsOf, PutsStrings, string_wire, strings_length}
use Rattle.c_calls.specs.declared.outcome.Outcome.{Outcome}
use Rattle.c_calls.proofs.PutTexts.{puts_both}

abbrev Is255 : List ℕ → Type 0
Is255 string = length string ≡ 255

-- strings of 255 octets that were copied, and the octets that are left
pub record CopiesStrings (octets rest : List ℕ) (at : ℕ) (old now : List ℕ) : Type 0 where
  pub full : List (List ℕ)
  pub whole : concat full ++ rest ≡ octets
  pub each : All Is255 full
  pub some : full ≢ [] → rest ≢ []
  pub count : at ≡ length (flat_map string_wire full)
  pub put : PutsAt (flat_map string_wire full) 0 old now
  pub room : at + strings_length (length rest) ≤ length old

strings_next : (n : ℕ) → 0 < n → strings_length (255 + n) ≡ 256 + strings_length n
strings_next n some = omega (arith, some)

strings_one : (n : ℕ) → n ≤ 255 → strings_length n ≡ n + 1
strings_one n short = omega (arith, short)

first_is : (rest first : List ℕ) → 255 < length rest → first ≡ take 255 rest → length first ≡ 255
first_is rest first more is = ap length is ∙ length-take-le 255 rest (omega (arith, more))

pub first_short : (rest first : List ℕ) → 255 < length rest → first ≡ take 255 rest → length first ≤ 255
first_short rest first more is = omega (arith, first_is rest first more is)

after_is : (rest after : List ℕ) → after ≡ drop 255 rest → length after ≡ length rest - 255
after_is rest after is = ap length is ∙ length-drop 255 rest

pub after_smaller : (rest after : List ℕ) → 255 < length rest → after ≡ drop 255 rest → length after < length rest
after_smaller rest after more is = omega (arith, after_is rest after is, more)

none_is : (l : List ℕ) → l ≡ [] → length l ≡ 0
none_is l is = ap length is

module _ (octets rest : List ℕ) (at : ℕ) (old now : List ℕ) (h : CopiesStrings octets rest at old now) where
  rests : 255 < length rest → strings_length (length rest) ≡ 256 + strings_length (length rest - 255)
  rests more =
      let n : ℕ = length rest - 255 in
      let is : length rest ≡ 255 + n = omega (arith, more) in
      ap strings_length is ∙ strings_next n (omega (arith, more))

  pub first_room : (first : List ℕ) → 255 < length rest → first ≡ take 255 rest → at + length first + 1 ≤ length now
  first_room first more is = omega (arith, first_is rest first more is, rests more, h.room, h.put.same)

  wires : (string : List ℕ) → flat_map string_wire (h.full ++ string ∷ []) ≡ flat_map string_wire h.full ++ string_wire string
  wires string = flat_map-append string_wire h.full (string ∷ []) ∙ ap (λ l. flat_map string_wire h.full ++ l) (append-nil (string_wire string))

  puts : (string next : List ℕ) → PutsAt (string_wire string) at now next → PutsAt (flat_map string_wire (h.full ++ string ∷ [])) 0 old next
  puts string next put =
      subst (λ l. PutsAt l 0 old next) (sym (wires string)) (puts_both (flat_map string_wire h.full) (string_wire string) 0 old now next h.put (subst (λ n. PutsAt (string_wire string) n now next) (omega (arith, h.count)) put))

  joined : (string : List ℕ) → concat (h.full ++ string ∷ []) ≡ concat h.full ++ string
  joined string = concat-append h.full (string ∷ []) ∙ ap (λ l. concat h.full ++ l) (append-nil string)

  pub strings_more : (first after next : List ℕ) (at' : ℕ) → 255 < length rest → first ≡ take 255 rest → after ≡ drop 255 rest → at' ≡ at + 256 → PutsAt (string_wire first) at now next → CopiesStrings octets after at' old next
  strings_more first after next at' more is left far put =
      let long = first_is rest first more is in
      record {
        full = h.full ++ first ∷ [];
        whole = ap (λ l. l ++ after) (joined first) ∙ append_assoc (concat h.full) first after ∙ ap (λ l. concat h.full ++ l) (ap (λ l. l ++ after) is ∙ ap (λ l. take 255 rest ++ l) left ∙ take-append-drop 255 rest) ∙ h.whole;
        each = All-append Is255 h.full (first ∷ []) h.each (All-cons Is255 first [] long (All-nil Is255));
        some = λ _ none. absurd (omega (arith, none_is after none, after_is rest after left, more));
        count = far ∙ omega (arith, h.count, ap length (wires first), length-append (flat_map string_wire h.full) (string_wire first), long);
        put = puts first next put;
        room = omega (arith, far, h.room, rests more, ap strings_length (after_is rest after left));
      }

  pub last_room : length rest ≤ 255 → at + length rest + 1 ≤ length now
  last_room short = omega (arith, strings_one (length rest) short, h.room, h.put.same)

  pub strings_end : (next : List ℕ) → length rest ≤ 255 → PutsAt (string_wire rest) at now next → PutsStrings octets old next
  strings_end next short put =
      (h.full ++ rest ∷ [], record { full = h.full; last = rest; are = refl; whole = joined rest ∙ h.whole; each = h.each; short = short; some = h.some }, puts rest next put)

-- the length of the strings of some octets
all_length : (full : List (List ℕ)) (last : List ℕ) → All Is255 full → length (concat (full ++ last ∷ [])) ≡ 255 * length full + length last
all_length [] last each = omega (arith, ap length (append-nil last))
all_length (x ∷ full) last each =
    let more = all_length full last (All-tail Is255 x full each) in
    omega (arith, length-append x (concat (full ++ last ∷ [])), more, All-head Is255 x full each)

wires_length : (full : List (List ℕ)) (last : List ℕ) → All Is255 full → length (flat_map string_wire (full ++ last ∷ [])) ≡ 256 * length full + length last + 1
wires_length [] last each = omega (arith, length-append (string_wire last) [])
wires_length (x ∷ full) last each =
    let more = wires_length full last (All-tail Is255 x full each) in
    omega (arith, length-append (string_wire x) (flat_map string_wire (full ++ last ∷ [])), more, All-head Is255 x full each)

counted : (k n : ℕ) → n ≤ 255 → (0 < k → 0 < n) → strings_length (255 * k + n) ≡ 256 * k + n + 1
counted zero n short some = omega (arith, strings_one n short)
counted (suc k) n short some =
    let more : 0 < n = some (omega arith) in
    let before = counted k n short (λ _. more) in
    let same : 255 * suc k + n ≡ 255 + (255 * k + n) = omega arith in
    omega (arith, ap strings_length same, strings_next (255 * k + n) (omega (arith, more)), before)

some_length : (l : List ℕ) → l ≢ [] → 0 < length l
some_length [] some = absurd (some refl)
some_length (x ∷ l) some = omega arith

last_some : (full : List (List ℕ)) (last : List ℕ) → (full ≢ [] → last ≢ []) → 0 < length full → 0 < length last
last_some [] last some more = absurd (omega (arith, more))
last_some (x ∷ full) last some more = some_length last (some (λ none. cc))

pub strings_long : (octets : List ℕ) (strings : List (List ℕ)) → AreStringsOf octets strings → length (flat_map string_wire strings) ≡ strings_length (length octets)
strings_long octets strings h =
    ap (λ l. length (flat_map string_wire l)) h.are ∙ wires_length h.full h.last h.each ∙ sym (counted (length h.full) (length h.last) h.short (last_some h.full h.last h.some))
    ∙ ap strings_length (sym (all_length h.full h.last h.each) ∙ ap (λ l. length (concat l)) (sym h.are) ∙ ap length h.whole)

-- what is copied to the start is the whole
pub strings_copied : (octets old new : List ℕ) (outcome : Outcome) → outcome ≡ record { length = strings_length (length octets); place = 0 } → strings_length (length octets) ≤ length old → PutsStrings octets old new
    → (strings : List (List ℕ)) × AreStringsOf octets strings × CopiesWhole (flat_map string_wire strings) old 0 new outcome
strings_copied octets old new outcome told room h =
    let n : ℕ = length (flat_map string_wire h.0) in
    let same : n ≡ 0 + n = omega arith in
    let long = strings_long octets h.0 h.1 in (
      h.0,
      h.1,
      record {
        told = told ∙ ap (λ n. record { length = n; place = 0 }) (sym long);
        fits = λ few. (refl, ap (λ k. take k new) same ∙ h.2.put, ap (λ k. drop k new) same ∙ h.2.rest ∙ ap (λ k. drop k old) (sym same));
        lacks = λ less. absurd (omega (arith, less, long, room));
      },
    )
