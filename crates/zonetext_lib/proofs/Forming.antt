-- The form of octets that arrive in chunks, and why others have none.
use Rattle.std.proofs.Common.{◌≡◌, ℕ, ◌+◌, ◌<◌, ◌≤◌, ◌^◌, List, [], ◌∷◌, ◌++◌, length, take, drop, refl, sym, ap, ◌∙◌, subst, arith, inl, inr, append-nil, append_assoc}
use Rattle.std.specs.Prelude.{Ok, Err}
use Rattle.std.proofs.lemmas.List.{take-append-drop, take-append-le}
use Rattle.std.proofs.Math.Seq.{take-append-add, take-append_seam}
use Rattle.dns_lexer.specs.declared.pieces.Piece.{Piece}
use Rattle.dns_lexer.specs.declared.pieces.Fault.{Fault}
use Rattle.dns_lexer.specs.declared.position.Position.{Position}
use Rattle.dns_lexer.specs.Pieces.{AreOctets, moved_fault}
use Rattle.dns_lexer.proofs.Blocks.{back_octets, both_octets}
use Rattle.zone_format.specs.Blocks.{AreEntries, FormatsEntries, FormatsLast, FormedTo, first_seam}
use Rattle.zone_format.specs.Formats.{Formats}
use Rattle.zone_format.proofs.Seams.{none_formed}
use Rattle.zone_format.specs.Refusal.{HasFirstError, HasTokenAfter}
use Rattle.zone_format.specs.declared.line_state.Above.{Above}
use Rattle.zone_format.specs.declared.line_state.Above.TheVariants.{Nothing}
use Rattle.zone_format.specs.declared.refusal.Refusal.TheVariants.{Nul as NulAt, OrderMark as OrderMarkAt, Wrong as WrongAt}
use Rattle.zone_format.specs.declared.line_state.FormatState.{FormatState}
use Rattle.zonetext_lib.specs.Blocks.{EndsEntry, Holds, IsHeld, Releases, Settled, SettlesHeld, StoresChunk}
use Rattle.zonetext_lib.specs.Found.{IsOctetFault}
use Rattle.zonetext_lib.specs.declared.blocks.ChunkError.{ChunkError}
use Rattle.zonetext_lib.specs.declared.blocks.ChunkError.TheVariants.{Wrong as WrongHalt, OutOfMemory as OutOfMemoryHalt, TooLong as TooLongHalt}
use Rattle.zonetext_lib.specs.declared.check.Found.{Found}
use Rattle.zonetext_lib.specs.declared.formatter.NoForm.{NoForm}
use Rattle.zonetext_lib.specs.declared.formatter.NoForm.TheVariants.{Wrong, Nul, OrderMark, OutOfMemory, TooLong}
use Rattle.zonetext_lib.specs.Forming.{AddsForm, FormedSoFar, FormsSettled, HasNoForm, HasNoFormAfter, as_no_form}
use Rattle.zonetext_lib.specs.Held.{Held}
use Rattle.zonetext_lib.specs.HeldForm.{Forming}
use Rattle.zone_format.specs.Place.{IsAt}
use Rattle.zonetext_lib.proofs.After.{entry_line}
use Rattle.zonetext_lib.proofs.Cuts.{take_octets}
use Rattle.zonetext_lib.proofs.ErrorsStay.{mark_first, mark_on, nul_first, nul_on, same_fault, stays_bad, stays_ended, wrong_first, wrong_on}
use Rattle.zonetext_lib.proofs.Holding.{added, discard_read, ended_at, ended_bad, halted, held_at}
use Rattle.zonetext_lib.proofs.Made.{cut_whole, whole_not_bad, zone_not_bad}

abbrev pub forming : Held → FormatState → Forming
forming h s = record { held = h; seam = s }

-- octets up to a cut are whole entries
ended_entries : (octets : List ℕ) → EndsEntry octets → AreEntries octets
ended_entries octets (inl none) = inl none
ended_entries octets (inr e) = let l = entry_line octets e.0 e.1 e.2 in inr (record { front = l.front; found = l.found; has_cr = l.has_cr; splits = l.splits; is = l.is })

settled_entries : (octets : List ℕ) (at : ℕ) → AreOctets octets → Settled octets (Ok at) → AreEntries (take at octets)
settled_entries octets at o s = ended_entries (take at octets) (ended_at [] octets at refl o (inl refl) s)

-- a block is stored, and its entries are formatted and dropped
pub formed_more : (all block written : List ℕ) (old new : Held) (s : FormatState) → FormedSoFar all written (forming old s) → new.octets ≡ old.octets ++ block → new.place ≡ old.place → FormedSoFar (all ++ block) written (forming new s)
unfolding added
formed_more all block written old new s x is place = record { held = added all block old new x.held is place; formed = x.formed }

pub formed_on : (all written from to : List ℕ) (old new : Held) (s t : FormatState) (cut : ℕ) → FormedSoFar all written (forming old s) → AreOctets old.octets → Settled old.octets (Ok cut) → FormatsEntries (take cut old.octets) s from to t
    → Releases old new cut → (more : List ℕ) × (to ≡ from ++ more) × FormedSoFar all (written ++ more) (forming new t)
unfolding discard_read
formed_on all written from to old new s t cut x o settled f r =
    let e = f (settled_entries old.octets cut o settled) in (
      e.0,
      e.1,
      record { held = discard_read all old new cut x.held o settled r.octets r.at r.position; formed = e.2 x.held.before written x.formed },
    )

-- ---- the first error, among all octets

place_on : (before y : List ℕ) (at : ℕ) (p : Position) → IsAt 0 (before ++ take at y) p → IsAt 0 (take (length before + at) (before ++ y)) p
place_on before y at p h = subst (λ l. IsAt 0 l p) (sym (take-append-add before y at)) h

place_first : (before x z : List ℕ) (at : ℕ) (p : Position) → at ≤ length x → IsAt 0 (before ++ take at x) p → IsAt 0 (take (length before + at) (before ++ (x ++ z))) p
place_first before x z at p w h = place_on before (x ++ z) at p (subst (λ l. IsAt 0 (before ++ l) p) (sym (take-append-le at x z w)) h)

pub whole_settled : (all more : List ℕ) (h : Held) (x : Holds all h) (cut : ℕ) → x.before ++ (take cut h.octets ++ (drop cut h.octets ++ more)) ≡ all ++ more
whole_settled all more h x cut =
    ap (λ l. x.before ++ l) (sym (append_assoc (take cut h.octets) (drop cut h.octets) more) ∙ ap (λ l. l ++ more) (take-append-drop cut h.octets))
    ∙ sym (append_assoc x.before h.octets more) ∙ ap (λ l. l ++ more) (sym x.is)

whole_held : (all more : List ℕ) (h : Held) (x : Holds all h) → x.before ++ (h.octets ++ more) ≡ all ++ more
whole_held all more h x = sym (append_assoc x.before h.octets more) ∙ ap (λ l. l ++ more) (sym x.is)

-- what is settled has no error
cut_not_bad : (octets : List ℕ) (at : ℕ) (f : Fault) → AreOctets octets → Settled octets (Ok at) → IsOctetFault (take at octets) f → ⊥
cut_not_bad octets at f o s bad = let w = cut_whole octets at o s in whole_not_bad (take at octets) f w bad

nul_within : (above : Above) (octets : List ℕ) (at : ℕ) → HasFirstError above octets (NulAt at) → at ≤ length octets
nul_within above octets at (found, s, e, token, start, less, within, zero_there, formed) = omega (arith, less, within)

mark_within : (above : Above) (octets : List ℕ) (at : ℕ) → HasFirstError above octets (OrderMarkAt at) → at ≤ length octets
mark_within above octets at (found, e, token, start, within, marked, formed, unformed) = omega (arith, start, within)

-- in what is settled
module _ (all more written : List ℕ) (h : Held) (s : FormatState) (cut : ℕ) (o : AreOctets h.octets) (st : Settled h.octets (Ok cut)) (f : FormedSoFar all written (forming h s)) (m : AreOctets more) where
  abbrev x : List ℕ
  x = take cut h.octets

  abbrev z : List ℕ
  z = drop cut h.octets ++ more

  ox : AreOctets x
  ox = take_octets cut h.octets o

  oz : AreOctets z
  oz = both_octets (drop cut h.octets) more (back_octets x (drop cut h.octets) (subst AreOctets (sym (take-append-drop cut h.octets)) o)) m

  stay : (found : List Piece) (i e : ℕ) → HasTokenAfter x found i e → HasTokenAfter (x ++ z) found i e
  stay = stays_ended x z ox oz (ended_at [] h.octets cut refl o (inl refl) st)

  settled_error : (why : NoForm) → HasNoFormAfter s.above h.place x why → HasNoForm (all ++ more) why
  settled_error (Wrong r) k = absurd (cut_not_bad h.octets cut k.0 o st (record { within = k.1.0; is = k.1.1 }))
  settled_error (Nul p) k =
      subst (λ l. HasNoForm l (Nul p)) (whole_settled all more h f.held cut) (
        length f.held.before + k.0,
        nul_on f.held.before (x ++ z) written s f.held.octets (both_octets x z ox oz) f.held.ended f.formed k.0 (nul_first x z s.above stay k.0 k.1),
        place_first f.held.before x z k.0 p (nul_within s.above x k.0 k.1) (k.2 f.held.before f.held.position),
      )
  settled_error (OrderMark p) k =
      subst (λ l. HasNoForm l (OrderMark p)) (whole_settled all more h f.held cut) (
        length f.held.before + k.0,
        mark_on f.held.before (x ++ z) written s f.held.octets (both_octets x z ox oz) f.held.ended f.formed k.0 (mark_first x z s.above stay k.0 k.1),
        place_first f.held.before x z k.0 p (mark_within s.above x k.0 k.1) (k.2 f.held.before f.held.position),
      )
  settled_error OutOfMemory k = tt
  settled_error TooLong k = k

pub settled_forms : (h : Held) (s : FormatState) (at : ℕ) (why : NoForm) (from to : List ℕ) → AreOctets h.octets → Settled h.octets (Ok at) → HasNoFormAfter s.above h.place (take at h.octets) why → FormsSettled (forming h s) from to (Err why)
settled_forms h s at (Wrong r) from to o st k = λ all written more f m. settled_error all more written h s at o st f m (Wrong r) k
settled_forms h s at (Nul p) from to o st k = λ all written more f m. settled_error all more written h s at o st f m (Nul p) k
settled_forms h s at (OrderMark p) from to o st k = λ all written more f m. settled_error all more written h s at o st f m (OrderMark p) k
settled_forms h s at OutOfMemory from to o st k = tt
settled_forms h s at TooLong from to o st k = k

-- at or before a syntax error that stays
module _ (all more written : List ℕ) (h : Held) (s : FormatState) (e : Fault) (o : AreOctets h.octets) (bad : Settled h.octets (Err e)) (f : FormedSoFar all written (forming h s)) (m : AreOctets more) where
  abbrev y : List ℕ
  y = h.octets ++ more

  oy : AreOctets y
  oy = both_octets h.octets more o m

  stay_bad : (found : List Piece) (i j : ℕ) → HasTokenAfter h.octets found i j → HasTokenAfter y found i j
  stay_bad = stays_bad h.octets more e o m bad

  bad_error : (why : NoForm) → HasNoFormAfter s.above h.place h.octets why → HasNoForm (all ++ more) why
  bad_error (Wrong r) k =
      let same = same_fault h.octets k.1.2 e k.0 bad k.1.3 in
      let here : Settled h.octets (Err k.0) = subst (λ (g : Fault). Settled h.octets (Err g)) same bad in
      let moved : r.fault ≡ moved_fault (λ i. length f.held.before + i) k.0 = subst (λ n. r.fault ≡ moved_fault (λ i. n + i) k.0) f.held.at k.2.fault in (
        halted all more h k.0 r f.held o m here k.2,
        subst (λ l. HasFirstError Nothing l (WrongAt r.fault)) (whole_held all more h f.held)
            (subst (λ (g : Fault). HasFirstError Nothing (f.held.before ++ y) (WrongAt g)) (sym moved)
            (wrong_on f.held.before y written s f.held.octets oy f.held.ended f.formed k.0 (wrong_first h.octets more s.above e k.0 o m bad k.1))),
      )
  bad_error (Nul p) k =
      subst (λ l. HasNoForm l (Nul p)) (whole_held all more h f.held) (
        length f.held.before + k.0,
        nul_on f.held.before y written s f.held.octets oy f.held.ended f.formed k.0 (nul_first h.octets more s.above stay_bad k.0 k.1),
        place_first f.held.before h.octets more k.0 p (nul_within s.above h.octets k.0 k.1) (k.2 f.held.before f.held.position),
      )
  bad_error (OrderMark p) k =
      subst (λ l. HasNoForm l (OrderMark p)) (whole_held all more h f.held) (
        length f.held.before + k.0,
        mark_on f.held.before y written s f.held.octets oy f.held.ended f.formed k.0 (mark_first h.octets more s.above stay_bad k.0 k.1),
        place_first f.held.before h.octets more k.0 p (mark_within s.above h.octets k.0 k.1) (k.2 f.held.before f.held.position),
      )
  bad_error OutOfMemory k = tt
  bad_error TooLong k = k

pub bad_forms : (h : Held) (s : FormatState) (e : Fault) (why : NoForm) (from to : List ℕ) → AreOctets h.octets → Settled h.octets (Err e) → HasNoFormAfter s.above h.place h.octets why → FormsSettled (forming h s) from to (Err why)
bad_forms h s e (Wrong r) from to o bad k = λ all written more f m. bad_error all more written h s e o bad f m (Wrong r) k
bad_forms h s e (Nul p) from to o bad k = λ all written more f m. bad_error all more written h s e o bad f m (Nul p) k
bad_forms h s e (OrderMark p) from to o bad k = λ all written more f m. bad_error all more written h s e o bad f m (OrderMark p) k
bad_forms h s e OutOfMemory from to o bad k = tt
bad_forms h s e TooLong from to o bad k = k

-- octets with a syntax error have no form
pub never_formed : (h : Held) (s : FormatState) (r : Found) (from to : List ℕ) → SettlesHeld h (Err r) → FormatsLast h.octets s from to → (all written : List ℕ) → FormedSoFar all written (forming h s) → ⊥
never_formed h s r from to bad l all written f =
    let formed = l.2 f.held.before written f.formed in
    let found = bad.2 all [] f.held refl in
    let fault : IsOctetFault all r.fault = subst (λ k. IsOctetFault k r.fault) (append-nil all) found.fault in
    zone_not_bad (f.held.before ++ h.octets) _ r.fault (formed.read.0, formed.read.1, refl) (subst (λ k. IsOctetFault k r.fault) f.held.is fault)

-- at the end
pub last_error : (all written : List ℕ) (h : Held) (s : FormatState) (why : NoForm) → AreOctets h.octets → HasNoFormAfter s.above h.place h.octets why → FormedSoFar all written (forming h s) → HasNoForm all why
last_error all written h s (Wrong r) o k f =
    let moved : r.fault ≡ moved_fault (λ i. length f.held.before + i) k.0 = subst (λ n. r.fault ≡ moved_fault (λ i. n + i) k.0) f.held.at k.2.fault in (
      ended_bad all h k.0 r f.held o (k.1.2, k.1.3) k.2,
      subst (λ l. HasFirstError Nothing l (WrongAt r.fault)) (sym f.held.is)
          (subst (λ (g : Fault). HasFirstError Nothing (f.held.before ++ h.octets) (WrongAt g)) (sym moved) (wrong_on f.held.before h.octets written s f.held.octets o f.held.ended f.formed k.0 k.1)),
    )
last_error all written h s (Nul p) o k f =
    subst (λ l. HasNoForm l (Nul p)) (sym f.held.is)
    (length f.held.before + k.0, nul_on f.held.before h.octets written s f.held.octets o f.held.ended f.formed k.0 k.1, place_on f.held.before h.octets k.0 p (k.2 f.held.before f.held.position))
last_error all written h s (OrderMark p) o k f =
    subst (λ l. HasNoForm l (OrderMark p)) (sym f.held.is)
    (length f.held.before + k.0, mark_on f.held.before h.octets written s f.held.octets o f.held.ended f.formed k.0 k.1, place_on f.held.before h.octets k.0 p (k.2 f.held.before f.held.position))
last_error all written h s OutOfMemory o k f = tt
last_error all written h s TooLong o k f = k

-- at the beginning
none_before : (before octets : List ℕ) → [] ≡ before ++ octets → ([] ≡ before) × ([] ≡ octets)
none_before [] octets e = (refl, e)
none_before (c ∷ before) octets e = cc

pub nothing_formed : (h : Held) (s : FormatState) → Holds [] h → s ≡ first_seam → FormedSoFar [] [] (forming h s)
nothing_formed h s x e = record {
  held = x;
  formed = subst (λ b. FormedTo b [] s) (none_before x.before h.octets x.is).0 (subst (λ (m : FormatState). FormedTo [] [] m) (sym e) none_formed);
}

pub nothing_held : (h : Held) → Holds [] h → length h.octets < 2 ^ 62
nothing_held h x = let none : length h.octets ≡ 0 = sym (ap length (none_before x.before h.octets x.is).1) in omega (arith, none)

-- a block that was not added, or was removed again
pub not_taken : (old new : Held) (s : FormatState) (block from to : List ℕ) (h : ChunkError) → StoresChunk old new block (Err h) → AddsForm {U = Unit} (forming old s) (forming new s) block from to (Err (as_no_form h))
not_taken old new s block from to (WrongHalt f) k = absurd k
not_taken old new s block from to OutOfMemoryHalt k = ap (λ (h : Held). forming h s) k
not_taken old new s block from to TooLongHalt k = (ap (λ (h : Held). forming h s) k.0, omega (arith, k.1))

pub given_back : (old mid new : Held) (s : FormatState) (block : List ℕ) (count : ℕ) → count ≡ length old.octets → mid.octets ≡ old.octets ++ block → mid.place ≡ old.place → mid.left ≡ old.left → IsHeld (take count mid.octets) mid new
    → forming new s ≡ forming old s
given_back old mid new s block count n is place left k =
    let same : new.octets ≡ old.octets = k.0 ∙ ap (λ l. take count l) is ∙ ap (λ i. take i (old.octets ++ block)) n ∙ take-append_seam old.octets block in
    ap (λ l. forming (held_at l new.place new.left) s) same ∙ ap (λ p. forming (held_at old.octets p new.left) s) (k.1 ∙ place) ∙ ap (λ i. forming (held_at old.octets old.place i) s) (k.2 ∙ left)

-- all is written
pub formed_last : (h : Held) (s : FormatState) (from to : List ℕ) → FormatsLast h.octets s from to → (all written : List ℕ) → FormedSoFar all written (forming h s) → (more : List ℕ) × (to ≡ from ++ more) × Formats all [] (written ++ more)
formed_last h s from to l all written x = (l.0, l.1, subst (λ k. Formats k [] (written ++ l.0)) (sym x.held.is) (l.2 x.held.before written x.formed))
