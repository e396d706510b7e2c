-- Calls that return something come to an end.
use Rattle.std.proofs.Common.{ℕ, ◌≡◌, ◌<◌, ◌≤◌, ◌+◌, ◌-◌, Bool, true, false, List, [], ◌∷◌, ◌++◌, length, drop, refl, sym, ap, ◌∙◌, subst, arith, append_assoc, inl, inr, None, Result, Ok, Err}
use Rattle.std.proofs.Common.{length-append}
use Rattle.std.specs.Prelude.{if◌then◌else◌, map, nat_eq}
use Rattle.std.specs.Io.BufRead.{drop_through}
use Rattle.std.proofs.lemmas.Bool.{cases_lt}
use Rattle.std.proofs.lemmas.List.{drop_all, length-drop}
use Rattle.dns_lexer.specs.declared.pieces.EndOfEntry.{EndOfEntry}
use Rattle.dns_lexer.specs.declared.pieces.Fault.{Fault}
use Rattle.dns_lexer.specs.EntryTokens.{EndIs, IsSeen, IsSeenFrom, PartSeen, TokenIs, seen_from}
use Rattle.dns_lexer.specs.Pieces.{AreOctets}
use Rattle.dns_lexer.specs.CursorStates.{ahead, at_entry}
use Rattle.dns_lexer.proofs.EntryLaws.{seen_once}
use Rattle.dns_lexer.proofs.EntryParts.{starts}
use Rattle.zone_reader.specs.Source.{SourceSeen}
use Rattle.zone_reader.specs.TextEntries.{end_seen}
use Rattle.zone_reader.specs.TextPieces.{seen_later}
use Rattle.zone_reader.specs.WholeTexts.{CallsEnd, remaining_calls, remaining_calls_at}
use Rattle.zone_reader.proofs.SeenParts.{Parts}
use Rattle.zone_reader.proofs.Passing.{ends_of}
use Rattle.zone_reader.proofs.RestsSeen.{moved_end, rest_there, seen_alone, seen_from_once}
use Rattle.zone_reader.proofs.StepsSeen.{GoesOn, step_seen}
use Rattle.zone_reader.proofs.TextPieces.{calls_stop, never_empty}

-- ---- how many parts are left

some_left : (ends tokens rest : Parts) (x : Result PartSeen Fault) (n : ℕ) → remaining_calls_at (ends ++ ((tokens ++ x ∷ []) ++ rest)) n ≡ n + 1
some_left [] [] rest x n = refl
some_left [] (t ∷ tokens) rest x n = refl
some_left (y ∷ ends) tokens rest x n = refl

one_more_at_most : (parts : Parts) (n : ℕ) → remaining_calls_at parts n ≤ n + 1
one_more_at_most [] n = omega arith
one_more_at_most (p ∷ parts) n = omega arith

-- ---- after the last octet only an end is seen

nothing_seen : (octets : List ℕ) (at : ℕ) (parts : Parts) → length octets ≤ at → IsSeenFrom octets at parts → (e : EndOfEntry) × (parts ≡ Ok (EndIs e) ∷ [])
nothing_seen octets at parts h s =
    let alone = seen_alone octets at parts s in
    let none : drop at octets ≡ [] = drop_all at octets h in
    let is : alone.0 ≡ seen_from [] 0 None (ahead [] (at_entry 0)) = seen_once [] alone.0 (seen_from [] 0 None (ahead [] (at_entry 0))) (subst (λ o. IsSeen o alone.0) none alone.1) (starts [] refl) in
    (record { at = at + 0; begins_blank = false }, alone.2 ∙ ap (map (seen_later at)) is)

end_alone : (ends tokens rest : Parts) (x : Result PartSeen Fault) (e : EndOfEntry) → ends ++ ((tokens ++ x ∷ []) ++ rest) ≡ Ok (EndIs e) ∷ [] → (x ≡ Ok (EndIs e)) × (rest ≡ [])
end_alone [] [] rest x e h = (cc, cc)
end_alone [] (t ∷ tokens) rest x e h = let none : (tokens ++ x ∷ []) ++ rest ≡ [] = cc in absurd (never_empty [] tokens rest x (sym none))
end_alone (y ∷ ends) tokens rest x e h = let none : ends ++ ((tokens ++ x ∷ []) ++ rest) ≡ [] = cc in absurd (never_empty ends tokens rest x (sym none))

-- ---- places come after the one where reading began

end_behind : (octets : List ℕ) (at : ℕ) (front left : Parts) (e : EndOfEntry) → IsSeenFrom octets at (front ++ (Ok (EndIs e) ∷ left)) → at ≤ e.at
end_behind octets at front left e s =
    let alone = seen_alone octets at (front ++ (Ok (EndIs e) ∷ left)) s in
    let m = moved_end at alone.0 front e left (sym alone.2) in omega (arith, m.at)

abbrev fault_place : Result PartSeen Fault → ℕ
fault_place (Ok p) = 0
fault_place (Err f) = f.at

fault_moved : (n : ℕ) (seen front : Parts) (f : Fault) (left : Parts) → map (seen_later n) seen ≡ front ++ (Err f ∷ left) → n ≤ f.at
fault_moved n [] [] f left is = cc
fault_moved n [] (y ∷ front) f left is = cc
fault_moved n (Ok (TokenIs t b) ∷ seen) [] f left is = cc
fault_moved n (Ok (EndIs x) ∷ seen) [] f left is = cc
fault_moved n (Err g ∷ seen) [] f left is =
    let same : seen_later n (Err g) ≡ Err f = cc in
    let at : n + g.at ≡ f.at = ap fault_place same in omega (arith, at)
fault_moved n (x ∷ seen) (y ∷ front) f left is =
    let rest : map (seen_later n) seen ≡ front ++ (Err f ∷ left) = cc in fault_moved n seen front f left rest

fault_behind : (octets : List ℕ) (at : ℕ) (front left : Parts) (f : Fault) → IsSeenFrom octets at (front ++ (Err f ∷ left)) → at ≤ f.at
fault_behind octets at front left f s =
    let alone = seen_alone octets at (front ++ (Err f ∷ left)) s in fault_moved at alone.0 front f left (sym alone.2)

-- ---- a line is skipped

shorter_if : (b : Bool) (xs ys : List ℕ) → length ys ≤ length xs → length (if b then xs else ys) ≤ length xs
shorter_if true xs ys h = omega arith
shorter_if false xs ys h = h

shorter_through : (octets : List ℕ) → length (drop_through 10 octets) ≤ length octets - 1
shorter_through [] = omega arith
shorter_through (c ∷ octets) =
    let h = shorter_through octets in
    let some : length (drop_through 10 octets) ≤ length octets = omega (arith, h) in
    let all : length (drop_through 10 (c ∷ octets)) ≤ length octets = shorter_if (nat_eq c 10) octets (drop_through 10 octets) some in
    omega (arith, all)

line_passed : (octets : List ℕ) (at next began : ℕ) → began < length octets → began ≤ at → drop next octets ≡ drop_through 10 (drop at octets) → length octets - next < length octets - began
line_passed octets at next began some later is =
    let lengths : length octets - next ≤ length octets - at - 1 = omega (arith, sym (length-drop next octets), ap length is, shorter_through (drop at octets), length-drop at octets) in
    omega (arith, lengths, some, later)

-- ---- each call leaves fewer parts

module _ (octets : List ℕ) (are : AreOctets octets) (ends tokens rest : Parts) (began : ℕ) (source : SourceSeen) where
  abbrev Fewer : Type 0
  Fewer = remaining_calls_at source.parts (length octets - source.began) < length octets - began + 1

  fewer_ended : (e : EndOfEntry) (left : Parts) → rest ≡ left → GoesOn octets (Ok e) rest source → IsSeenFrom octets began (ends ++ ((tokens ++ Ok (EndIs e) ∷ []) ++ rest)) → Fewer
  fewer_ended e [] none k s = subst (λ l. remaining_calls_at l (length octets - source.began) < length octets - began + 1) (sym (k.0 ∙ none)) (omega arith)
  fewer_ended e (x ∷ left) is k s =
      let shape : ends ++ ((tokens ++ Ok (EndIs e) ∷ []) ++ rest) ≡ (ends ++ tokens) ++ (Ok (EndIs e) ∷ rest) =
      ap (λ l. ends ++ l) (append_assoc tokens (Ok (EndIs e) ∷ []) rest) ∙ sym (append_assoc ends tokens (Ok (EndIs e) ∷ rest)) in
      let all = subst (IsSeenFrom octets began) shape s in
      let many : 0 < length rest = omega (arith, ap length is) in
      let there = rest_there octets began (ends ++ tokens) rest e are all many in
      let behind = end_behind octets began (ends ++ tokens) rest e all in
      let apart : began ≡ e.at → ⊥ = λ h. (
      let same = seen_from_once octets began ((ends ++ tokens) ++ (Ok (EndIs e) ∷ rest)) rest all (subst (λ n. IsSeenFrom octets n rest) (sym h) there) in
      let lengths : length (ends ++ tokens) + length (Ok (EndIs e) ∷ rest) ≡ length rest = sym (length-append (ends ++ tokens) (Ok (EndIs e) ∷ rest)) ∙ ap length same in
      omega (arith, lengths)
      ) in
      let some : began < length octets = elim (cases_lt began (length octets)) [
        | inl h ↦ h
        | inr h ↦ (let one = nothing_seen octets began (ends ++ ((tokens ++ Ok (EndIs e) ∷ []) ++ rest)) h s in let none = end_alone ends tokens rest (Ok (EndIs e)) one.0 one.1 in absurd (omega (arith, many, ap length none.1)))
      ] in
      let most = one_more_at_most source.parts (length octets - source.began) in
      let place : source.began ≡ e.at = k.2 in
      let further : began < e.at = elim (cases_lt began e.at) [ inl h ↦ h | inr h ↦ absurd (apart (omega (arith, h, behind))) ] in
      omega (arith, most, place, further, some)

  fewer_then : (end : Result EndOfEntry Fault) → GoesOn octets end rest source → IsSeenFrom octets began (ends ++ ((tokens ++ end_seen end ∷ []) ++ rest)) → Fewer
  fewer_then (Ok e) k s = fewer_ended e rest refl k s
  fewer_then (Err f) k s =
      let last : ends ++ ((tokens ++ Err f ∷ []) ++ rest) ≡ (ends ++ tokens) ++ (Err f ∷ rest) = ap (λ l. ends ++ l) (append_assoc tokens (Err f ∷ []) rest) ∙ sym (append_assoc ends tokens (Err f ∷ rest)) in
      let behind = fault_behind octets began (ends ++ tokens) rest f (subst (IsSeenFrom octets began) last s) in
      let some : began < length octets = elim (cases_lt began (length octets)) [
        | inl h ↦ h
        | inr h ↦ (let one = nothing_seen octets began (ends ++ ((tokens ++ Err f ∷ []) ++ rest)) h s in let no = (end_alone ends tokens rest (Err f) one.0 one.1).0 in cc)
      ] in
      let passed = line_passed octets f.at source.began began some behind k.1.behind in
      let most = one_more_at_most source.parts (length octets - source.began) in
      omega (arith, most, passed)

pub calls_end : CallsEnd
calls_end room octets start first r after given old new result h row next =
    let s = calls_stop room octets start first r given h row in
    let q = step_seen room r after old new result s.closed next in
    let tokens : Parts = map (λ t. Ok (TokenIs t q.entry.begins_blank)) q.entry.tokens in
    let goes : GoesOn octets q.entry.end q.rest after.source = subst (λ o. GoesOn o q.entry.end q.rest after.source) s.octets_is q.goes_on in
    let many : remaining_calls r ≡ length octets - r.source.began + 1 =
    ap (λ o. remaining_calls_at r.source.parts (length o - r.source.began)) s.octets_is ∙ ap (λ l. remaining_calls_at l (length octets - r.source.began)) q.parts_are
    ∙ some_left (ends_of q.ends) tokens q.rest (end_seen q.entry.end) (length octets - r.source.began) in
    let later : remaining_calls after ≡ remaining_calls_at after.source.parts (length octets - after.source.began) = ap (λ o. remaining_calls_at after.source.parts (length o - after.source.began)) (next.octets_stay ∙ s.octets_is) in
    elim s.there [
      | inl none ↦ absurd (never_empty (ends_of q.ends) tokens q.rest (end_seen q.entry.end) (sym none ∙ q.parts_are))
      | inr from ↦ (let fewer = fewer_then octets h.are_octets (ends_of q.ends) tokens q.rest r.source.began after.source q.entry.end goes (subst (IsSeenFrom octets r.source.began) q.parts_are from) in omega (arith, many, later, fewer))
    ]
