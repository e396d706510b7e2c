-- A whole text is read entry by entry, each with the state that those before it leave.
use Rattle.std.proofs.Common.{ℕ, ◌≡◌, Bool, true, false, List, [], ◌∷◌, ◌++◌, refl, sym, ap, ◌∙◌, subst, append_assoc, append-nil, inl, inr, Option, Some, None, Result, Ok, Err}
use Rattle.std.specs.Prelude.{◌⊎◌, if◌then◌else◌, map}
use Rattle.std.specs.List.{filter}
use Rattle.std.proofs.lemmas.Grind.{flat_map-append}
use Rattle.std.proofs.lemmas.List.{map-append}
use Rattle.std.proofs.lemmas.List.Elements.{filter-append}
use Rattle.dns_octets.specs.Room.{Room}
use Rattle.dns_lexer.specs.declared.pieces.EndOfEntry.{EndOfEntry}
use Rattle.dns_lexer.specs.declared.pieces.Fault.{Fault}
use Rattle.dns_lexer.specs.EntryTokens.{TokenIs}
use Rattle.zone_reader.specs.Directives.{first_directive}
use Rattle.zone_reader.specs.EntryReading.{declared_by_entry}
use Rattle.zone_reader.specs.Past.{StateAfter}
use Rattle.zone_reader.specs.Records.{AreSuccessiveResults, EntryResult, ReadsBegun, ReadsNextEntry, StartsText, given_next, none_given}
use Rattle.zone_reader.specs.Source.{BeginsEntry, SourceSeen}
use Rattle.zone_reader.specs.TextEntries.{IsSeenPastFaults, TextEntry, end_seen, entry_counts, parts_of_entries, parts_of_entry}
use Rattle.zone_reader.specs.WholeTexts.{EntryAsRead, IsReadAfterEarlier, IsReadSoFar, TextsAreRead, TextsAreReadToTheEnd, all_declared, result_as_read}
use Rattle.zone_reader.specs.declared.records.RecordReader.{RecordReader}
use Rattle.zone_reader.specs.declared.source.StartOfEntry.{StartOfEntry}
use Rattle.zone_reader.specs.declared.state.State.{State}
use Rattle.zone_reader.proofs.SeenParts.{Parts}
use Rattle.zone_reader.proofs.Passing.{ends_of}
use Rattle.zone_reader.proofs.PastStates.{starts}
use Rattle.zone_reader.proofs.StepsSeen.{GoesOn, StepSeen, step_seen}
use Rattle.zone_reader.proofs.TextParts.{closed_left, empty_entry, empty_parts, empty_pass, seen_at_start, seen_more, seen_past}

-- ---- lists that are cut

no_cut : {X : Type 0} (before after : List X) (x : X) → [] ≡ before ++ (x ∷ after) → ⊥
no_cut [] after x e = cc
no_cut (y ∷ before) after x e = cc

-- at their last, or before it
cut_last : {X : Type 0} (all before after : List X) (last x : X) → all ++ (last ∷ []) ≡ before ++ (x ∷ after) → ((all ≡ before) × (last ≡ x)) ⊎ ((more : List X) × (all ≡ before ++ (x ∷ more)))
cut_last [] [] after last x e = inl (refl, cc)
cut_last [] (y ∷ before) after last x e = let none : [] ≡ before ++ (x ∷ after) = cc in absurd (no_cut before after x none)
cut_last (a ∷ all) [] after last x e = let same : a ≡ x = cc in inr (all, ap (λ y. y ∷ all) same)
cut_last (a ∷ all) (y ∷ before) after last x e =
    let same : a ≡ y = cc in
    let rest : all ++ (last ∷ []) ≡ before ++ (x ∷ after) = cc in
    elim (cut_last all before after last x rest) [
      | inl h ↦ inl (ap (λ l. a ∷ l) h.0 ∙ ap (λ b. b ∷ before) same, h.1)
      | inr h ↦ inr (h.0, ap (λ l. a ∷ l) h.1 ∙ ap (λ b. b ∷ (before ++ (x ∷ h.0))) same)
    ]

-- ---- what calls have returned so far

record Stands (room : Room) (octets : List ℕ) (start : State) (given : List EntryResult) (last : RecordReader) : Type 0 where
  octets_is : last.octets.now ≡ octets
  closed : last.source.is_open ≡ false
  so_far : IsReadSoFar room octets start given last.source.parts
  knows : StateAfter start (all_declared so_far.read) last.state

at_first : (room : Room) (octets : List ℕ) (start : State) (first : RecordReader) → StartsText octets start first → Stands room octets start [] first
at_first room octets start first h = record {
  octets_is = h.octets_is;
  closed = h.closed;
  so_far = record {
    entries = [];
    seen = seen_at_start octets first.source.parts h.are_octets h.parts;
    read = [];
    are_entries = refl;
    are_given = refl;
    each = λ before after r e. absurd (no_cut before after r e);
  };
  knows = subst (StateAfter start []) (sym h.state_is) (starts start);
}

-- entries without tokens, and one that counts
one_counts : (e : TextEntry) → entry_counts e ≡ true → filter entry_counts (e ∷ []) ≡ e ∷ []
one_counts e h = ap (λ (b : Bool). if b then e ∷ [] else []) h

module _ (entries : List TextEntry) (ends : List EndOfEntry) (entry : TextEntry) where
  abbrev with_ends : List TextEntry
  with_ends = entries ++ (map empty_entry ends ++ entry ∷ [])

  parts_with : parts_of_entries with_ends ≡ parts_of_entries entries ++ (ends_of ends ++ parts_of_entry entry)
  parts_with =
      flat_map-append parts_of_entry entries (map empty_entry ends ++ entry ∷ [])
      ∙ ap (λ l. parts_of_entries entries ++ l)
      (flat_map-append parts_of_entry (map empty_entry ends) (entry ∷ []) ∙ ap (λ l. l ++ parts_of_entries (entry ∷ [])) (empty_parts ends) ∙ ap (λ l. ends_of ends ++ l) (append-nil (parts_of_entry entry)))

  one_more : entry_counts entry ≡ true → filter entry_counts with_ends ≡ filter entry_counts entries ++ entry ∷ []
  one_more h =
      filter-append entry_counts entries (map empty_entry ends ++ entry ∷ [])
      ∙ ap (λ l. filter entry_counts entries ++ l)
      (filter-append entry_counts (map empty_entry ends) (entry ∷ []) ∙ ap (λ l. l ++ filter entry_counts (entry ∷ [])) (empty_pass ends) ∙ one_counts entry h)

-- reading continues after the parts of an entry
module _ (octets : List ℕ) (seen ends tokens rest : Parts) (source : SourceSeen) where
  seen_behind : (end : Result EndOfEntry Fault) → GoesOn octets end rest source → IsSeenPastFaults octets seen (ends ++ ((tokens ++ end_seen end ∷ []) ++ rest))
      → IsSeenPastFaults octets (seen ++ (ends ++ (tokens ++ end_seen end ∷ []))) source.parts
  seen_behind (Ok e) k s =
      let more : Parts = ends ++ (tokens ++ end_seen (Ok e) ∷ []) in
      subst (IsSeenPastFaults octets (seen ++ more)) (sym k.0)
      (seen_more octets seen more rest (subst (IsSeenPastFaults octets seen) (sym (append_assoc ends (tokens ++ end_seen (Ok e) ∷ []) rest)) s))
  seen_behind (Err f) k s =
      let cut : (ends ++ tokens) ++ Err f ∷ [] ≡ ends ++ (tokens ++ Err f ∷ []) = append_assoc ends tokens (Err f ∷ []) in
      let last : ends ++ ((tokens ++ Err f ∷ []) ++ rest) ≡ (ends ++ tokens) ++ Err f ∷ [] =
      ap (λ r. ends ++ ((tokens ++ Err f ∷ []) ++ r)) k.0 ∙ ap (λ l. ends ++ l) (append-nil (tokens ++ Err f ∷ [])) ∙ sym cut in
      subst (λ l. IsSeenPastFaults octets (seen ++ l) source.parts) cut (seen_past octets seen (ends ++ tokens) f source (subst (IsSeenPastFaults octets seen) last s) k.1)

goes_closed : (octets : List ℕ) (end : Result EndOfEntry Fault) (rest : Parts) (source : SourceSeen) → GoesOn octets end rest source → source.is_open ≡ false
goes_closed octets (Ok e) rest source k = k.1
goes_closed octets (Err f) rest source k = k.1.closed

-- ---- one more call

module _ (room : Room) (octets : List ℕ) (start : State) (given : List EntryResult) (middle last : RecordReader) (g : EntryResult) (s : Stands room octets start given middle)
    (q : StepSeen room octets middle.source.parts middle.state g.old g.result last.state last.source g.new) (state_is : last.state ≡ g.state) where
  abbrev this : EntryAsRead
  this = record {
    entry = q.entry;
    read = q.read;
    said = declared_by_entry (first_directive q.entry.begins_blank q.entry.tokens) q.reads.meaning q.read;
    old = g.old;
    new = g.new;
    after = last.state;
  }

  abbrev tokens : Parts
  tokens = map (λ t. Ok (TokenIs t q.entry.begins_blank)) q.entry.tokens

  seen_then : IsSeenPastFaults octets (parts_of_entries (with_ends s.so_far.entries q.ends q.entry)) last.source.parts
  seen_then =
      subst (λ l. IsSeenPastFaults octets l last.source.parts) (sym (parts_with s.so_far.entries q.ends q.entry))
      (seen_behind octets (parts_of_entries s.so_far.entries) (ends_of q.ends) tokens q.rest last.source q.entry.end q.goes_on (subst (IsSeenPastFaults octets (parts_of_entries s.so_far.entries)) q.parts_are s.so_far.seen))

  given_this : result_as_read this ≡ g
  given_this = λ i. record { old = g.old; result = sym q.given i; new = g.new; state = state_is i }

  behind_all : IsReadAfterEarlier room start (all_declared s.so_far.read) this
  behind_all = record { state = middle.state; knows = s.knows; reads = q.reads; says = refl }

  each_then : (before after : List EntryAsRead) (r : EntryAsRead) → s.so_far.read ++ this ∷ [] ≡ before ++ (r ∷ after) → IsReadAfterEarlier room start (all_declared before) r
  each_then before after r e =
      elim (cut_last s.so_far.read before after this r e) [
        | inl h ↦ subst (λ x. IsReadAfterEarlier room start (all_declared before) x) h.1 (subst (λ l. IsReadAfterEarlier room start (all_declared l) this) h.0 behind_all)
        | inr h ↦ s.so_far.each before h.0 r h.1
      ]

  stands_then : last.octets.now ≡ octets → Stands room octets start (given ++ g ∷ []) last
  stands_then octets_is = record {
    octets_is = octets_is;
    closed = goes_closed octets q.entry.end q.rest last.source q.goes_on;
    so_far = record {
      entries = with_ends s.so_far.entries q.ends q.entry;
      seen = seen_then;
      read = s.so_far.read ++ this ∷ [];
      are_entries = map-append (λ (r : EntryAsRead). r.entry) s.so_far.read (this ∷ []) ∙ ap (λ l. l ++ q.entry ∷ []) s.so_far.are_entries ∙ sym (one_more s.so_far.entries q.ends q.entry q.counts);
      are_given = map-append result_as_read s.so_far.read (this ∷ []) ∙ ap (λ l. l ++ result_as_read this ∷ []) s.so_far.are_given ∙ ap (λ x. given ++ x ∷ []) given_this;
      each = each_then;
    };
    knows = subst (λ l. StateAfter start l last.state) (sym (flat_map-append (λ (r : EntryAsRead). r.said) s.so_far.read (this ∷ []) ∙ ap (λ l. all_declared s.so_far.read ++ l) (append-nil this.said)))
        (q.reads.learns start (all_declared s.so_far.read) s.knows);
  }

calls_stand : (room : Room) (octets : List ℕ) (start : State) (first last : RecordReader) (given : List EntryResult) → StartsText octets start first → AreSuccessiveResults room first given last → Stands room octets start given last
calls_stand room octets start first last given h none_given = at_first room octets start first h
calls_stand room octets start first last given h (given_next before middle end g row next state) =
    let s = calls_stand room octets start first middle before h row in
    let q = step_seen room middle end g.old g.new g.result s.closed next in
    stands_then room octets start before middle end g s (subst (λ o. StepSeen room o middle.source.parts middle.state g.old g.result end.state end.source g.new) s.octets_is q) state
    (next.octets_stay ∙ s.octets_is)

pub texts_are_read : TextsAreRead
texts_are_read room octets start first last given h row = (calls_stand room octets start first last given h row).so_far

-- ---- the end

-- if no entry is returned, only the ends of entries without tokens are left
nothing_left : (room : Room) (last after : RecordReader) (old new : List ℕ) → last.source.is_open ≡ false → ReadsNextEntry room last old None after new → (ends : List EndOfEntry) × (last.source.parts ≡ ends_of ends)
nothing_left room last after old new closed h = go h.start h.begins h.reads
  where
    go : (start : Result (Option StartOfEntry) Fault) → BeginsEntry last.source start h.begun → ReadsBegun room last.octets.now h.begun start last.state old None after new
        → (ends : List EndOfEntry) × (last.source.parts ≡ ends_of ends)
    go (Ok (Some start)) b r = let no = r.4 in cc
    go (Ok None) b r = (b.ends, sym (closed_left last.source closed) ∙ b.passed ∙ ap (λ l. ends_of b.ends ++ l) b.start.1 ∙ append-nil (ends_of b.ends))
    go (Err fault) b r = let no = r.0 in cc

pub texts_are_read_to_the_end : TextsAreReadToTheEnd
texts_are_read_to_the_end room octets start first last after given old new h row none =
    let s = calls_stand room octets start first last given h row in
    let left = nothing_left room last after old new s.closed none in
    let some : List TextEntry = map empty_entry left.0 in
    let parts : last.source.parts ≡ ends_of left.0 ++ [] = left.1 ∙ sym (append-nil (ends_of left.0)) in
    let shape : parts_of_entries (s.so_far.entries ++ some) ≡ parts_of_entries s.so_far.entries ++ ends_of left.0 =
    flat_map-append parts_of_entry s.so_far.entries some ∙ ap (λ l. parts_of_entries s.so_far.entries ++ l) (empty_parts left.0) in
    record {
      entries = s.so_far.entries ++ some;
      seen = subst (λ l. IsSeenPastFaults octets l []) (sym shape)
          (seen_more octets (parts_of_entries s.so_far.entries) (ends_of left.0) [] (subst (IsSeenPastFaults octets (parts_of_entries s.so_far.entries)) parts s.so_far.seen));
      read = s.so_far.read;
      are_entries = s.so_far.are_entries ∙ sym (filter-append entry_counts s.so_far.entries some ∙ ap (λ l. filter entry_counts s.so_far.entries ++ l) (empty_pass left.0) ∙ append-nil (filter entry_counts s.so_far.entries));
      are_given = s.so_far.are_given;
      each = s.so_far.each;
    }
