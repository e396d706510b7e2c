-- Marks of records.
use Rattle.std.proofs.Common.{ℕ, ◌≡◌, ◌≢◌, ◌+◌, ◌<◌, ◌≤◌, ◌⊎◌, inl, inr, Bool, true, false, Option, Some, None, List, ◌++◌, length, take, get_or, set, leb, ltb, replicate, refl, sym, ap, subst, ◌∙◌, arith}
use Rattle.std.specs.Prelude.{◌&&◌, ◌||◌, slice_get}
use Rattle.std.specs.Option.{option_map}
use Rattle.std.specs.List.{list_any}
use Rattle.std.proofs.Math.Bool.{or_assoc}
use Rattle.std.proofs.Math.Seq.{take-append_seam}
use Rattle.std.proofs.lemmas.Bool.{cases_lt, le-leb, le-ltb, lt-ltb}
use Rattle.std.proofs.lemmas.Bool.Decides.{leb_tells}
use Rattle.std.proofs.lemmas.List.{get_or-replicate, get_or-set_other, get_or-set_same, length-replicate, length-set}
use Rattle.std.proofs.lemmas.Option.{get_or_from_slice_get}
use Rattle.dns_wire.specs.Order.{same_name}
use Rattle.zone_record.specs.declared.record.Record.{Record}
use Rattle.zone_rules.specs.Searches.{AreOwnedFrom}
use Rattle.zone_rules.specs.Zones.{as_listed}
use Rattle.zone_dnssec.specs.UnmatchedLinks.{shows_hashed, HaveMarks, MarksOwners, MarksWithin}
use Rattle.zone_dnssec.specs.ZoneViews.{ZoneView}
use Rattle.zone_dnssec.proofs.OwnedRecords.{some_is}
use Rattle.zone_dnssec.proofs.ChainSearch.{any_more, or_false, or_true}

and_false : (b : Bool) → (b && false) ≡ false
and_false true = refl
and_false false = refl

-- ---- indexes from one up to another

within : (first past i : ℕ) → first ≤ i → i < past → (leb first i && ltb i past) ≡ true
within first past i low lt = λ j. le-leb first i low j && lt-ltb i past lt j

before : (first past i : ℕ) → i < first → (leb first i && ltb i past) ≡ false
before first past i lt = by (leb_tells first i)
  where
    by : ((leb first i ≡ true) × (first ≤ i)) ⊎ ((leb first i ≡ false) × (i < first)) → (leb first i && ltb i past) ≡ false
    by (inl h) = absurd (omega (arith, h.1, lt))
    by (inr h) = ap (λ b. b && ltb i past) h.0

after : (first past i : ℕ) → past ≤ i → (leb first i && ltb i past) ≡ false
after first past i more = ap (λ b. leb first i && b) (le-ltb i past more) ∙ and_false (leb first i)

none_within : (first past i : ℕ) → past ≤ first → (leb first i && ltb i past) ≡ false
none_within first past i less = by (cases_lt i first)
  where
    by : (i < first) ⊎ (first ≤ i) → (leb first i && ltb i past) ≡ false
    by (inl lt) = before first past i lt
    by (inr low) = after first past i (omega (arith, low, less))

pub nothing_within : (first past : ℕ) (marks : List Bool) → past ≤ first → MarksWithin first past marks marks
nothing_within first past marks less = record {
  size = refl;
  each = λ i d lt. sym (ap (λ b. get_or marks i d || b) (none_within first past i less) ∙ or_false (get_or marks i d));
}

pub more_within : (first place : ℕ) (old now : List Bool) → first ≤ place → place < length old → MarksWithin first place old now → MarksWithin first (place + 1) old (set now place true)
more_within first place old now low less h = record {
  size = length-set now place true ∙ h.size;
  each = λ i d lt. by i d lt (cases_lt i place);
}
  where
    other : (i : ℕ) (d : Bool) → i < length old → i ≢ place → (leb first i && ltb i place) ≡ (leb first i && ltb i (place + 1))
        → get_or (set now place true) i d ≡ (get_or old i d || (leb first i && ltb i (place + 1)))
    other i d lt not_here same = get_or-set_other now place i true d not_here ∙ h.each i d lt ∙ ap (λ b. get_or old i d || b) same

    here : (i : ℕ) (d : Bool) → i ≡ place → get_or (set now place true) i d ≡ (get_or old i d || (leb first i && ltb i (place + 1)))
    here i d same =
        ap (λ k. get_or (set now place true) k d) same
        ∙ get_or-set_same now place true d (omega (arith, less, h.size))
        ∙ or_true (get_or old i d)
        ∙ ap (λ b. get_or old i d || b) (sym (within first (place + 1) i (omega (arith, same, low)) (omega (arith, same))))

    after_place : (i : ℕ) (d : Bool) → i < length old → place ≤ i → (place < i) ⊎ (i ≤ place) → get_or (set now place true) i d ≡ (get_or old i d || (leb first i && ltb i (place + 1)))
    after_place i d lt more (inl far) = other i d lt (λ e. absurd (omega (arith, e, far))) (after first place i more ∙ sym (after first (place + 1) i (omega (arith, far))))
    after_place i d lt more (inr le) = here i d (omega (arith, more, le))

    before_place : (i : ℕ) (d : Bool) → i < length old → i < place → (i < first) ⊎ (first ≤ i) → get_or (set now place true) i d ≡ (get_or old i d || (leb first i && ltb i (place + 1)))
    before_place i d lt near (inl k) = other i d lt (λ e. absurd (omega (arith, e, near))) (before first place i k ∙ sym (before first (place + 1) i k))
    before_place i d lt near (inr k) =
        other i d lt (λ e. absurd (omega (arith, e, near))) (within first place i k near ∙ sym (within first (place + 1) i k (omega (arith, near))))

    by : (i : ℕ) (d : Bool) → i < length old → (i < place) ⊎ (place ≤ i) → get_or (set now place true) i d ≡ (get_or old i d || (leb first i && ltb i (place + 1)))
    by i d lt (inl near) = before_place i d lt near (cases_lt i first)
    by i d lt (inr more) = after_place i d lt more (cases_lt place i)

-- the loop ends at the last index, or at once
pub past_within : (first past place : ℕ) (old new : List Bool) → past ≤ place → (place ≤ past) ⊎ (place ≤ first) → MarksWithin first place old new → MarksWithin first past old new
past_within first past place old new more ends h = by ends
  where
    at_once : place ≤ first → (i : ℕ) (d : Bool) → i < length old → get_or new i d ≡ (get_or old i d || (leb first i && ltb i past))
    at_once le i d lt =
        h.each i d lt ∙ ap (λ b. get_or old i d || b) (none_within first place i le ∙ sym (none_within first past i (omega (arith, more, le))))

    by : (place ≤ past) ⊎ (place ≤ first) → MarksWithin first past old new
    by (inl le) = let same : place ≡ past = omega (arith, le, more) in subst (λ n. MarksWithin first n old new) same h
    by (inr le) = record { size = h.size; each = at_once le }

-- ---- records whose owner passes a test

module _ {N O : Type 0} (records : List (Record N O)) where
  owned_window : (name : List (List ℕ)) (first past : ℕ) → AreOwnedFrom name records first past → (i : ℕ) (e : Record N O) → i < length records
      → (leb first i && ltb i past) ≡ same_name (get_or records i e).owner name
  owned_window name first past owned i e lt = by (cases_lt i first)
    where
      later : first ≤ i → (i < past) ⊎ (past ≤ i) → (leb first i && ltb i past) ≡ same_name (get_or records i e).owner name
      later low (inl less) = within first past i low less ∙ sym (owned.owned i e low less)
      later low (inr more) = after first past i more ∙ sym (owned.after i e more lt)

      by : (i < first) ⊎ (first ≤ i) → (leb first i && ltb i past) ≡ same_name (get_or records i e).owner name
      by (inl less) = before first past i less ∙ sym (owned.before i e (omega arith) less)
      by (inr low) = later low (cases_lt i past)

  pub owned_marks : (name : List (List ℕ)) (first past : ℕ) (test : List (List ℕ) → Bool) (old new : List Bool) → length old ≡ length records → AreOwnedFrom name records first past
      → ((owner : List (List ℕ)) → test owner ≡ same_name owner name) → MarksWithin first past old new → MarksOwners records test old new
  owned_marks name first past test old new size owned is h = record {
    size = h.size;
    each = λ i d e lt.
        h.each i d (omega (arith, lt, size))
        ∙ ap (λ b. get_or old i d || b) (owned_window name first past owned i e lt ∙ sym (is (get_or records i e).owner));
  }

  pub no_marks : (test : List (List ℕ) → Bool) (marks : List Bool) → ((owner : List (List ℕ)) → test owner ≡ false) → MarksOwners records test marks marks
  no_marks test marks none = record {
    size = refl;
    each = λ i d e lt. sym (ap (λ b. get_or marks i d || b) (none (get_or records i e).owner) ∙ or_false (get_or marks i d));
  }

  pub same_marks : (f g : List (List ℕ) → Bool) (old new : List Bool) → ((owner : List (List ℕ)) → g owner ≡ f owner) → MarksOwners records f old new → MarksOwners records g old new
  same_marks f g old new same h = record {
    size = h.size;
    each = λ i d e lt. h.each i d e lt ∙ ap (λ b. get_or old i d || b) (sym (same (get_or records i e).owner));
  }

  pub both_marks : (f g k : List (List ℕ) → Bool) (old mid new : List Bool) → ((owner : List (List ℕ)) → k owner ≡ (f owner || g owner)) → MarksOwners records f old mid → MarksOwners records g mid new
      → MarksOwners records k old new
  both_marks f g k old mid new both h m = record {
    size = m.size ∙ h.size;
    each = λ i d e lt.
        m.each i d e lt ∙ ap (λ b. b || g (get_or records i e).owner) (h.each i d e lt)
        ∙ or_assoc (get_or old i d) (f (get_or records i e).owner) (g (get_or records i e).owner)
        ∙ ap (λ b. get_or old i d || b) (sym (both (get_or records i e).owner));
  }

-- ---- the marks of a chain

module _ {N O M P : Type 0} (zone : ZoneView N O) (chain : Record M P) where
  pub unset_marks : (marks : List Bool) (count : ℕ) → marks ≡ replicate count false → count ≡ length zone.records → HaveMarks zone chain (take 0 zone.records) marks
  unset_marks marks count e size = record {
    size = ap length e ∙ length-replicate count false ∙ size;
    each = λ i d x lt. ap (λ l. get_or l i d) e ∙ get_or-replicate count i false d (omega (arith, lt, size));
  }

  pub more_marks : (place : ℕ) (old new : List Bool) (r : Record N O) → place < length zone.records → get_or zone.records place r ≡ r → HaveMarks zone chain (take place zone.records) old
      → MarksOwners zone.records (λ owner. shows_hashed zone chain owner r) old new → HaveMarks zone chain (take (place + 1) zone.records) new
  more_marks place old new r lt is h m = record {
    size = m.size ∙ h.size;
    each = λ i d e less.
        m.each i d e less
        ∙ ap (λ b. b || shows_hashed zone chain (get_or zone.records i e).owner r) (h.each i d e less)
        ∙ sym (any_more (shows_hashed zone chain (get_or zone.records i e).owner) zone.records place r lt ∙ ap (λ x. list_any (shows_hashed zone chain (get_or zone.records i e).owner) (take place zone.records) || shows_hashed zone chain (get_or zone.records i e).owner x) is);
  }

  pub more_marks_of : {R S : Type 0} (place : ℕ) (old new : List Bool) (found : Record R S) → place < length zone.records → Some found ≡ option_map as_listed (slice_get zone.records place)
      → HaveMarks zone chain (take place zone.records) old → MarksOwners zone.records (λ owner. shows_hashed zone chain owner found) old new → HaveMarks zone chain (take (place + 1) zone.records) new
  more_marks_of {R = R} {S = S} place old new found lt e h m = by (slice_get zone.records place) refl e
    where
      by : (o : Option (Record N O)) → slice_get zone.records place ≡ o → Some found ≡ option_map as_listed o → HaveMarks zone chain (take (place + 1) zone.records) new
      by None q k = cc
      by (Some r) q k =
          more_marks place old new r lt (get_or_from_slice_get zone.records place r r q) h
          (subst (λ x. MarksOwners zone.records (λ owner. shows_hashed zone chain owner x) old new) (some_is k) m)

-- the items of a list before others
pub taken_whole : (n : ℕ) (xs ys : List Bool) → n ≡ length xs → take n (xs ++ ys) ≡ xs
taken_whole n xs ys e = ap (λ m. take m (xs ++ ys)) e ∙ take-append_seam xs ys
