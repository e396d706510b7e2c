-- What `next_entry` returns for all octets that were added.
use Rattle.std.proofs.Common.{◌≡◌, ◌≢◌, ℕ, ◌+◌, ◌<◌, ◌≤◌, ◌^◌, Bool, true, false, List, [], ◌∷◌, ◌++◌, length, take, drop, refl, sym, ap, ◌∙◌, subst, arith, inl, inr, append-nil, length-drop}
use Rattle.std.specs.Prelude.{◌⊎◌, ◌↔◌, IsTrue, map, Option, Some, None, Result, Ok, Err}
use Rattle.std.proofs.lemmas.Bool.{cases_lt, false≢true}
use Rattle.std.proofs.lemmas.List.{drop-drop}
use Rattle.dns_octets.specs.Room.{Room}
use Rattle.dns_lexer.specs.declared.pieces.EndOfEntry.{EndOfEntry}
use Rattle.dns_lexer.specs.declared.pieces.Fault.{Fault}
use Rattle.dns_lexer.specs.declared.pieces.Piece.{Piece}
use Rattle.dns_lexer.specs.EntryTokens.{TokenSeen}
use Rattle.dns_lexer.specs.Pieces.{AreOctets}
use Rattle.dns_lexer.specs.CursorStates.{blank_at}
use Rattle.zone_format.specs.declared.place.LocatedOffset.{LocatedOffset}
use Rattle.zone_format.proofs.Givens.{fault_of, first_fault}
use Rattle.zone_format.proofs.Opened.{quote_within}
use Rattle.rdata_fields.specs.declared.record_error.RecordError.{RecordError}
use Rattle.zone_reader.specs.declared.entry.ParsedEntry.{ParsedEntry}
use Rattle.zone_reader.specs.declared.state.State.{State}
use Rattle.zone_reader.specs.FirstEntry.{StopsFirst, piece_tokens, stop_offset}
use Rattle.zone_reader.specs.Tape.{FillsLine}
use Rattle.zone_reader.specs.declared.tape.TokenSpan.{TokenSpan}
use Rattle.zone_reader.proofs.Filling.{end_within as tape_within}
use Rattle.zone_stream.specs.Adding.{FindsEntry, IsHeldStop, IsPutOff, LetsRead, SkipsLine, after_long_entry, after_stop, found_len, with_scanned_len}
use Rattle.zone_stream.specs.Blocks.{Blocks, BuffersSuffix, MayFollow, after_line_if, remaining_held, place_of_next, remaining_text}
use Rattle.zone_stream.specs.First.{BeginsEntryWith, FirstEntryEnds}
use Rattle.zone_stream.specs.Yielding.{CanMove, ReadsNext, ReadsPending, result_by}
use Rattle.zone_stream.specs.declared.refusal.BlockRefusal.TheVariants.{LongEntry}
use Rattle.zone_stream.proofs.Held.{ahead_rest, dropped, holds_rest, holds_same, left_ahead, none_left}
use Rattle.zone_stream.proofs.LastEnds.{within_after}
use Rattle.zone_stream.proofs.LongEntries.{not_within, one_stop, stops_first}
use Rattle.zone_stream.proofs.Stops.{alone, end_within, fault_stays, stays}

first_of_bad : (found : List Piece) (f : Fault) → first_fault (map Ok found ++ Err f ∷ []) ≡ Some f
first_of_bad [] f = refl
first_of_bad (p ∷ found) f = first_of_bad found f

-- this number of octets is within the limit
pub not_long : (limit len : ℕ) (b : Bool) → (IsTrue b ↔ (limit < len)) → b ≡ false → len ≤ limit
not_long limit len b h e = elim (cases_lt limit len) [
  | inl less ↦ let t : IsTrue false = subst IsTrue e (h.1 less) in cc
  | inr most ↦ most
]

-- ---- a stop is among the octets that are held

module _ (c : Blocks) (within : c.next ≤ length c.octets) (ok : AreOctets (drop c.next c.octets)) where
  pub held_stop : (stop : Result ℕ Fault) → FirstEntryEnds (drop c.next c.octets) c.is_finished (Some stop) → IsHeldStop c stop
  held_stop (Ok at) s = omega (arith, within, length-drop c.next c.octets, end_within (drop c.next c.octets) ok s.0 s.1 s.2, s.3)
  held_stop (Err f) s = omega (arith, within, length-drop c.next c.octets, (within_after (length (drop c.next c.octets)) s.0.found (Err f ∷ []) s.0.given.1).0)

  pub can_move : (stop : Result ℕ Fault) (at : ℕ) → FirstEntryEnds (drop c.next c.octets) c.is_finished (Some stop) → at + length (drop c.next c.octets) + 2 < 2 ^ 64 → CanMove at stop
  can_move (Ok n) at s room = tt
  can_move (Err f) at s room =
      let bad = fault_of (drop c.next c.octets) _ f s.0.given.0 s.0.given.1 (first_of_bad s.0.found f) in
      (omega (arith, room, bad.0), λ i is. omega (arith, room, quote_within (drop c.next c.octets) f i bad.1 is))

-- ---- the text that is left

blank_front : (rest more : List ℕ) → rest ≢ [] → blank_at (rest ++ more) 0 ≡ blank_at rest 0
blank_front [] more h = absurd (h refl)
blank_front (x ∷ rest) more h = refl

empty : (l : List ℕ) → length l ≡ 0 → l ≡ []
empty [] e = refl
empty (x ∷ l) e = absurd (omega (arith, e))

no_line : (in_bad_line : Bool) → after_line_if in_bad_line [] ≡ []
no_line true = refl
no_line false = refl

-- the next entry was looked for
module _ (all : List ℕ) (b m f : Blocks) (h : BuffersSuffix all b) (k : SkipsLine b m) (found : Option (Result ℕ Fault)) (n : FindsEntry m found f) where
  same_f : f ≡ record b { next = m.next; in_bad_line = m.in_bad_line; left = f.left }
  same_f = n.same ∙ ap (λ (x : Blocks). with_scanned_len x f.left) k.same

  holds_f : BuffersSuffix all f
  holds_f = holds_same all b h f (ap (λ (x : Blocks). x.octets) same_f) (ap (λ (x : Blocks). x.start) same_f)

  within_f : f.next ≤ length f.octets
  within_f = omega (arith, k.within, ap (λ (x : Blocks). x.next) same_f, ap (λ (x : Blocks). length x.octets) same_f)

  within_b : b.next ≤ length b.octets
  within_b = omega (arith, k.on, k.within)

  finished_f : f.is_finished ≡ b.is_finished
  finished_f = ap (λ (x : Blocks). x.is_finished) same_f

  limit_f : f.limit ≡ b.limit
  limit_f = ap (λ (x : Blocks). x.limit) same_f

  left_f : (more : List ℕ) → remaining_text b (all ++ more) ≡ remaining_held f more
  left_f more = left_ahead all b h more within_b ∙ sym (k.ahead_is more) ∙ ap (λ (x : Blocks). remaining_held x more) (sym n.same)

  -- if something is left, no line remains to be skipped
  no_skip : drop f.next f.octets ≢ [] → f.in_bad_line ≡ false
  no_skip some = ap (λ (x : Blocks). x.in_bad_line) n.same ∙ go k.in_bad_line
    where
      go : (m.in_bad_line ≡ false) ⊎ (m.next ≡ length b.octets) → m.in_bad_line ≡ false
      go (inl e) = e
      go (inr e) =
          let none : length (drop f.next f.octets) ≡ 0 = omega (arith, length-drop f.next f.octets, ap (λ (x : Blocks). x.next) same_f, ap (λ (x : Blocks). length x.octets) same_f, e) in
          absurd (some (empty (drop f.next f.octets) none))

  here : (more : List ℕ) → drop (place_of_next f) (all ++ more) ≡ drop f.next f.octets ++ more
  here more = dropped all f holds_f f.next more within_f

  some_left : drop f.next f.octets ≢ [] → (more : List ℕ) → remaining_text b (all ++ more) ≡ drop (place_of_next f) (all ++ more)
  some_left some more = left_f more ∙ ap (λ s. after_line_if s (drop f.next f.octets ++ more)) (no_skip some) ∙ sym (here more)

  -- the text that is left after `count` more octets
  further : (c : Blocks) (count : ℕ) (more : List ℕ) → c.start ≡ f.start → c.next ≡ f.next + count → remaining_text c (all ++ more) ≡ after_line_if c.in_bad_line (drop count (drop (place_of_next f) (all ++ more)))
  further c count more start next =
      ap (λ i. after_line_if c.in_bad_line (drop i (all ++ more))) (omega (arith, ap (λ (p : LocatedOffset). p.at) start, next))
      ∙ ap (after_line_if c.in_bad_line) (sym (drop-drop count (place_of_next f) (all ++ more)))

-- ---- reading was put off, or nothing was left of a text that may continue

module _ (room : Room) (all : List ℕ) (b m f c : Blocks) (state : State) (target : List ℕ) (h : BuffersSuffix all b) (k : SkipsLine b m) (n : FindsEntry m None f) (short : length (drop f.next f.octets) ≤ f.limit) (g : LetsRead f c) where
  left_c : (more : List ℕ) → remaining_text c (all ++ more) ≡ remaining_text b (all ++ more)
  left_c more =
      left_ahead all c (holds_rest all f (holds_f all b m f h k None n) c g) more (omega (arith, ap (λ (x : Blocks). x.next) g.same)) ∙ ahead_rest f c more g ∙ sym (left_f all b m f h k None n more)

  ended : b.is_finished ≡ true → remaining_text c all ≡ []
  ended e = go n.finds
    where
      over : m.is_finished ≡ true
      over = ap (λ (x : Blocks). x.is_finished) k.same ∙ e

      go : IsPutOff m ⊎ (AreOctets (drop f.next f.octets) × FirstEntryEnds (drop f.next f.octets) f.is_finished None) → remaining_text c all ≡ []
      go (inr s) = absurd (false≢true (sym s.1.0 ∙ ap (λ (x : Blocks). x.is_finished) n.same ∙ over))
      go (inl (inr p)) = absurd (false≢true (sym p.0 ∙ over))
      go (inl (inl none)) =
          ap (remaining_text c) (sym (append-nil all)) ∙ left_c [] ∙ left_f all b m f h k None n [] ∙ ap (λ (x : Blocks). remaining_held x []) n.same
          ∙ ap (λ l. after_line_if m.in_bad_line (l ++ [])) none ∙ no_line m.in_bad_line

  pub gives_none : ReadsNext room all b state target None c state target
  gives_none = record {
    holds = holds_rest all f (holds_f all b m f h k None n) c g;
    limit = ap (λ (x : Blocks). x.limit) g.same ∙ limit_f all b m f h k None n;
    gives = record {
      state = refl;
      target = refl;
      left = λ more may. left_c more;
      ended = ended;
      held = omega (arith, short, ap (λ (x : Blocks). length x.octets) g.same, limit_f all b m f h k None n);
      is_finished = ap (λ (x : Blocks). x.is_finished) g.same ∙ finished_f all b m f h k None n;
    };
  }

-- ---- an entry, or a syntax error, was found

module _ (all : List ℕ) (b m f : Blocks) (h : BuffersSuffix all b) (k : SkipsLine b m) where
  module _ (end : EndOfEntry) (left : List (Result Piece Fault)) (n : FindsEntry m (Some (Ok end.at)) f) (x : StopsFirst (drop f.next f.octets) (Ok end) left) (why : (0 < length left) ⊎ (f.is_finished ≡ true)) where
    none_more : (more : List ℕ) → (b.is_finished ≡ true → more ≡ []) → left ≡ [] → more ≡ []
    none_more more may e = go why
      where
        go : (0 < length left) ⊎ (f.is_finished ≡ true) → more ≡ []
        go (inl some) = absurd (omega (arith, some, ap length e))
        go (inr over) = may (sym (finished_f all b m f h k (Some (Ok end.at)) n) ∙ over)

    begins_end : (more : List ℕ) → MayFollow b more → BeginsEntryWith (drop (place_of_next f) (all ++ more)) (blank_at (drop f.next f.octets) 0) (piece_tokens (take end.at (drop f.next f.octets)) None x.found) (Ok end)
    begins_end more may =
        let rest : List ℕ = drop f.next f.octets in
        subst (λ l. BeginsEntryWith l (blank_at rest 0) (piece_tokens (take end.at rest) None x.found) (Ok end)) (sym (here all b m f h k (Some (Ok end.at)) n more))
        (subst (λ (t : Bool). BeginsEntryWith (rest ++ more) t (piece_tokens (take end.at rest) None x.found) (Ok end)) (blank_front rest more n.finds.2)
        (stays rest n.finds.0 end left x more may.0 (none_more more may.1)))

  module _ (e : Fault) (n : FindsEntry m (Some (Err e)) f) (x : StopsFirst (drop f.next f.octets) (Err e) []) (why : (e.at < length (drop f.next f.octets)) ⊎ (f.is_finished ≡ true)) where
    before_or : (more : List ℕ) → (b.is_finished ≡ true → more ≡ []) → (e.at < length (drop f.next f.octets)) ⊎ (more ≡ [])
    before_or more may = go why
      where
        go : (e.at < length (drop f.next f.octets)) ⊎ (f.is_finished ≡ true) → (e.at < length (drop f.next f.octets)) ⊎ (more ≡ [])
        go (inl less) = inl less
        go (inr over) = inr (may (sym (finished_f all b m f h k (Some (Err e)) n) ∙ over))

    begins_fault : (more : List ℕ) → MayFollow b more → BeginsEntryWith (drop (place_of_next f) (all ++ more)) (blank_at (drop f.next f.octets) 0) (piece_tokens (drop f.next f.octets) None x.found) (Err e)
    begins_fault more may =
        let rest : List ℕ = drop f.next f.octets in
        subst (λ l. BeginsEntryWith l (blank_at rest 0) (piece_tokens rest None x.found) (Err e)) (sym (here all b m f h k (Some (Err e)) n more))
        (subst (λ (t : Bool). BeginsEntryWith (rest ++ more) t (piece_tokens rest None x.found) (Err e)) (blank_front rest more n.finds.2) (fault_stays rest e x more n.finds.0 may.0 (before_or more may.1)))

module _ (room : Room) (all : List ℕ) (b m f c : Blocks) (before after : State) (old new : List ℕ) (read : Result ParsedEntry RecordError) (h : BuffersSuffix all b) (k : SkipsLine b m) where
  gives_end : (end : EndOfEntry) (left : List (Result Piece Fault)) (n : FindsEntry m (Some (Ok end.at)) f) (x : StopsFirst (drop f.next f.octets) (Ok end) left) → (0 < length left) ⊎ (f.is_finished ≡ true)
      → end.at ≤ f.limit → ReadsPending room f (Ok end.at) before old read after new → c ≡ after_stop f (Ok end.at) → ReadsNext room all b before old (Some (result_by (place_of_next f) (Ok end) read)) c after new
  gives_end end left n x why short reads is =
      let rest : List ℕ = drop f.next f.octets in
      let found : Option (Result ℕ Fault) = Some (Ok end.at) in
      let own = alone rest n.finds.0 end left x in record {
        holds = holds_same all f (holds_f all b m f h k found n) c (ap (λ (x : Blocks). x.octets) is) (ap (λ (x : Blocks). x.start) is);
        limit = ap (λ (x : Blocks). x.limit) is ∙ limit_f all b m f h k found n;
        gives = inl (record {
          at = place_of_next f;
          began_at = ap (λ (x : Blocks). x.began) is;
          blank = blank_at rest 0;
          tokens = piece_tokens (take end.at rest) None x.found;
          stop = Ok end;
          stands = λ more may. record {
            left = some_left all b m f h k found n n.finds.2 more;
            begins = begins_end all b m f h k end left n x why more may;
            behind = further all b m f h k found n c end.at more (ap (λ (x : Blocks). x.start) is) (ap (λ (x : Blocks). x.next) is)
                ∙ ap (λ s. after_line_if s (drop end.at (drop (place_of_next f) (all ++ more)))) (ap (λ (x : Blocks). x.in_bad_line) is ∙ no_skip all b m f h k found n n.finds.2);
          };
          short = omega (arith, short, limit_f all b m f h k found n);
          is_finished = ap (λ (x : Blocks). x.is_finished) is ∙ finished_f all b m f h k found n;
          read = read;
          reads = reads (Ok end) own.0 (record { found = x.found; is_open = x.is_open; given = own.1 }) own.2;
          is = refl;
        });
      }

  gives_fault : (e : Fault) (n : FindsEntry m (Some (Err e)) f) (x : StopsFirst (drop f.next f.octets) (Err e) []) → (e.at < length (drop f.next f.octets)) ⊎ (f.is_finished ≡ true)
      → e.at ≤ f.limit → ReadsPending room f (Err e) before old read after new → c ≡ after_stop f (Err e) → ReadsNext room all b before old (Some (result_by {E = ℕ} (place_of_next f) (Err e) read)) c after new
  gives_fault e n x why short reads is =
      let rest : List ℕ = drop f.next f.octets in
      let found : Option (Result ℕ Fault) = Some (Err e) in record {
        holds = holds_same all f (holds_f all b m f h k found n) c (ap (λ (x : Blocks). x.octets) is) (ap (λ (x : Blocks). x.start) is);
        limit = ap (λ (x : Blocks). x.limit) is ∙ limit_f all b m f h k found n;
        gives = inl (record {
          at = place_of_next f;
          began_at = ap (λ (x : Blocks). x.began) is;
          blank = blank_at rest 0;
          tokens = piece_tokens rest None x.found;
          stop = Err e;
          stands = λ more may. record {
            left = some_left all b m f h k found n n.finds.2 more;
            begins = begins_fault all b m f h k e n x why more may;
            behind = further all b m f h k found n c e.at more (ap (λ (x : Blocks). x.start) is) (ap (λ (x : Blocks). x.next) is)
                ∙ ap (λ s. after_line_if s (drop e.at (drop (place_of_next f) (all ++ more)))) (ap (λ (x : Blocks). x.in_bad_line) is);
          };
          short = omega (arith, short, limit_f all b m f h k found n);
          is_finished = ap (λ (x : Blocks). x.is_finished) is ∙ finished_f all b m f h k found n;
          read = read;
          reads = reads (Err e) [] x refl;
          is = refl;
        });
      }

  given_ends : (at : ℕ) (end : EndOfEntry) (n : ℕ) (r : Result ParsedEntry RecordError) → result_by at (Ok end) r ≡ result_by {E = ℕ} at (Ok n) r
  given_ends at end n (Ok x) = refl
  given_ends at end n (Err x) = refl

  pub gives_some : (stop : Result ℕ Fault) → FindsEntry m (Some stop) f → found_len f (Some stop) ≤ f.limit → ReadsPending room f stop before old read after new → c ≡ after_stop f stop
      → ReadsNext room all b before old (Some (result_by (place_of_next f) stop read)) c after new
  gives_some (Ok at) n short reads is = go n.finds.3.0 n.finds.3.1 n.finds.3.2 at n.finds.3.3 n n.finds.3.4 short reads is
    where
      go : (end : EndOfEntry) (left : List (Result Piece Fault)) → StopsFirst (drop f.next f.octets) (Ok end) left → (at : ℕ) → end.at ≡ at → FindsEntry m (Some (Ok at)) f → (0 < length left) ⊎ (f.is_finished ≡ true)
          → at ≤ f.limit → ReadsPending room f (Ok at) before old read after new → c ≡ after_stop f (Ok at) → ReadsNext room all b before old (Some (result_by (place_of_next f) (Ok at) read)) c after new
      go end left x at e n why short reads is =
          let back = sym e in
          subst (λ g. ReadsNext room all b before old (Some g) c after new) (given_ends (place_of_next f) end at read)
          (gives_end end left (subst (λ i. FindsEntry m (Some (Ok i)) f) back n) x why (omega (arith, short, e)) (subst (λ i. ReadsPending room f (Ok i) before old read after new) back reads) (subst (λ i. c ≡ after_stop f (Ok i)) back is))
  gives_some (Err e) n short reads is = gives_fault e n n.finds.3.0 n.finds.3.1 short reads is

-- ---- an entry was found, and its end does not depend on the octets that follow

module _ (b : Blocks) (within : b.next ≤ length b.octets) (spans : List TokenSpan) (at : ℕ) (fills : FillsLine (drop b.next b.octets) spans at) where
  pub held_line : IsHeldStop b (Ok at)
  held_line = omega (arith, within, length-drop b.next b.octets, tape_within (drop b.next b.octets) spans at fills.0)

  pub gives_line : (room : Room) (all : List ℕ) (c : Blocks) (before after : State) (old new : List ℕ) (read : Result ParsedEntry RecordError) → BuffersSuffix all b → b.in_bad_line ≡ false → AreOctets (drop b.next b.octets) → drop b.next b.octets ≢ []
      → at ≤ b.limit → ReadsPending room b (Ok at) before old read after new → c ≡ after_stop (with_scanned_len b 0) (Ok at) → ReadsNext room all b before old (Some (result_by {E = ℕ} (place_of_next b) (Ok at) read)) c after new
  gives_line room all c before after old new read h in_bad_line ok some short reads is =
      let f = fills.0 in
      gives_some room all b b (with_scanned_len b 0) c before after old new read h (record { same = refl; on = omega arith; within = within; ahead_is = λ more. refl; in_bad_line = inl in_bad_line; stays = λ e. refl }) (Ok at)
      (record { same = refl; finds = (ok, within, some, (f.stop, f.left, f.first, f.ends, inl fills.1)) }) short reads is

-- ---- an entry is too long

module _ (room : Room) (all : List ℕ) (b m f c : Blocks) (state : State) (target : List ℕ) (h : BuffersSuffix all b) (k : SkipsLine b m) (is : c ≡ after_long_entry f) where
  module _ (found : Option (Result ℕ Fault)) (n : FindsEntry m found f) (some : drop f.next f.octets ≢ [])
      (long : (more : List ℕ) → MayFollow b more → (blank : Bool) (tokens : List TokenSeen) (stop : Result EndOfEntry Fault) → BeginsEntryWith (drop (place_of_next f) (all ++ more)) blank tokens stop → f.limit < stop_offset stop) where
    holds_c : BuffersSuffix all c
    holds_c = holds_same all f (holds_f all b m f h k found n) c (ap (λ (x : Blocks). x.octets) is) (ap (λ (x : Blocks). x.start) is)

    ends : ReadsNext room all b state target (Some (Err LongEntry)) c state target
    ends = record {
      holds = holds_c;
      limit = ap (λ (x : Blocks). x.limit) is ∙ limit_f all b m f h k found n;
      gives = inr (
        refl,
        record {
          state = refl;
          target = refl;
          at = place_of_next f;
          began_at = ap (λ (x : Blocks). x.began) is;
          stands = λ more may. record { left = some_left all b m f h k found n some more; long = λ blank tokens stop begins. omega (arith, long more may blank tokens stop begins, limit_f all b m f h k found n) };
          left = none_left all c holds_c (ap (λ (x : Blocks). x.next) is ∙ ap (λ (x : Blocks). length x.octets) (sym is));
          is_finished = ap (λ (x : Blocks). x.is_finished) is;
        },
      );
    }

  some_octets : (l : List ℕ) (i : ℕ) → i < length l → l ≢ []
  some_octets l i less e = omega (arith, less, ap length e)

  -- the same octets are held after the search for the next entry
  sought : FindsEntry m None f → length (drop m.next m.octets) ≡ length (drop f.next f.octets)
  sought n = ap (λ (x : Blocks). length (drop x.next x.octets)) (sym n.same)

  pub ends_long : (found : Option (Result ℕ Fault)) → FindsEntry m found f → f.limit < found_len f found → ReadsNext room all b state target (Some (Err LongEntry)) c state target
  ends_long (Some (Ok at)) n less = ends (Some (Ok at)) n n.finds.2 (λ more may blank tokens stop begins.
      let end = n.finds.3.0 in
      let back : FindsEntry m (Some (Ok end.at)) f = subst (λ i. FindsEntry m (Some (Ok i)) f) (sym n.finds.3.3) n in
      let own = begins_end all b m f h k end n.finds.3.1 back n.finds.3.2 n.finds.3.4 more may in
      omega (arith, less, n.finds.3.3, ap stop_offset (one_stop (drop (place_of_next f) (all ++ more)) blank _ tokens _ stop (Ok end) begins own)))
  ends_long (Some (Err e)) n less = ends (Some (Err e)) n n.finds.2 (λ more may blank tokens stop begins.
      let own = begins_fault all b m f h k e n n.finds.3.0 n.finds.3.1 more may in
      omega (arith, less, ap stop_offset (one_stop (drop (place_of_next f) (all ++ more)) blank _ tokens _ stop (Err e) begins own)))
  ends_long None n less = go n.finds
    where
      go : IsPutOff m ⊎ (AreOctets (drop f.next f.octets) × FirstEntryEnds (drop f.next f.octets) f.is_finished None) → ReadsNext room all b state target (Some (Err LongEntry)) c state target
      go (inl (inl none)) = absurd (omega (arith, less, sought n, ap length none))
      go (inl (inr p)) = absurd (omega (arith, less, sought n, p.2, ap (λ (x : Blocks). x.limit) n.same))
      go (inr s) = ends None n (some_octets (drop f.next f.octets) f.limit less) (λ more may blank tokens stop begins.
          let whole : BeginsEntryWith (drop f.next f.octets ++ more) blank tokens stop = subst (λ l. BeginsEntryWith l blank tokens stop) (here all b m f h k None n more) begins in
          let own = stops_first (drop f.next f.octets ++ more) blank tokens stop whole in
          omega (arith, less, not_within (drop f.next f.octets) more s.0 may.0 (refl, s.1.1) stop own.0 own.1))
