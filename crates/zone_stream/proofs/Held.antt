-- The octets that are held, and the text that is left.
use Rattle.std.proofs.Common.{◌≡◌, ℕ, ◌+◌, ◌-◌, ◌≤◌, Bool, true, false, List, [], ◌++◌, length, take, drop, refl, sym, ap, ◌∙◌, subst, arith, append-nil, append_assoc, length-append, length-drop, take_all}
use Rattle.std.proofs.Math.Seq.{drop-append-add, take-append-add}
use Rattle.std.proofs.lemmas.List.{drop-append-le, drop_all, take-append-drop, length-take-le}
use Rattle.zone_format.specs.Place.{IsAt}
use Rattle.zone_format.specs.declared.place.LocatedOffset.{LocatedOffset}
use Rattle.dns_lexer.specs.declared.position.Position.{Position}
use Rattle.zone_stream.specs.Adding.{LetsRead}
use Rattle.zone_stream.specs.Blocks.{Blocks, BuffersSuffix, IsPlaceOf, after_line_if, remaining_held, remaining_text}

-- from an offset to the end
pub all_after : (n : ℕ) (l : List ℕ) → take (length l - n) (drop n l) ≡ drop n l
all_after n l = take_all (length l - n) (drop n l) (omega (arith, length-drop n l))

module _ (all : List ℕ) (b : Blocks) (h : BuffersSuffix all b) where
  -- from an offset on
  pub dropped : (n : ℕ) (more : List ℕ) → n ≤ length b.octets → drop (b.start.at + n) (all ++ more) ≡ drop n b.octets ++ more
  dropped n more within =
      ap (λ l. drop (b.start.at + n) (l ++ more)) h.is ∙ ap (drop (b.start.at + n)) (append_assoc h.before b.octets more) ∙ ap (λ i. drop (i + n) (h.before ++ (b.octets ++ more))) h.at
      ∙ drop-append-add h.before (b.octets ++ more) n ∙ drop-append-le n b.octets more within

  pub left_ahead : (more : List ℕ) → b.next ≤ length b.octets → remaining_text b (all ++ more) ≡ remaining_held b more
  left_ahead more within = ap (after_line_if b.in_bad_line) (dropped b.next more within)

  pub taken : (n : ℕ) → take (b.start.at + n) all ≡ h.before ++ take n b.octets
  taken n = ap (take (b.start.at + n)) h.is ∙ ap (λ i. take (i + n) (h.before ++ b.octets)) h.at ∙ take-append-add h.before b.octets n

  pub held_length : length all ≡ b.start.at + length b.octets
  held_length = omega (arith, ap length h.is, length-append h.before b.octets, h.at)

  pub holds_same : (c : Blocks) → c.octets ≡ b.octets → c.start ≡ b.start → BuffersSuffix all c
  holds_same c octets start = record {
    before = h.before;
    is = h.is ∙ ap (λ l. h.before ++ l) (sym octets);
    at = ap (λ (p : LocatedOffset). p.at) start ∙ h.at;
    position = subst (λ (p : LocatedOffset). IsAt 0 h.before p.position) (sym start) h.position;
  }

  pub holds_more : (block : List ℕ) → BuffersSuffix (all ++ block) (record b { octets = b.octets ++ block })
  holds_more block = record { before = h.before; is = ap (λ l. l ++ block) h.is ∙ append_assoc h.before b.octets block; at = h.at; position = h.position }

  -- the position of an offset
  pub position_of : (n at : ℕ) (p : Position) → b.start.at + n ≡ at → n ≤ length b.octets → ((before : List ℕ) → IsAt 0 before b.start.position → IsAt 0 (before ++ take n b.octets) p) → IsPlaceOf all at p
  position_of n at p here within behind = (
    omega (arith, here, within, held_length),
    subst (λ k. IsAt 0 (take k all) p) here (subst (λ l. IsAt 0 l p) (sym (taken n)) (behind h.before h.position)),
  )

  -- the octets from an offset on
  pub octets_behind : (n at : ℕ) → b.start.at + n ≡ at → n ≤ length b.octets → (at ≤ length all) × (drop n b.octets ≡ drop at all)
  octets_behind n at here within = (
    omega (arith, here, within, held_length),
    sym (ap (λ k. drop k all) (sym here) ∙ ap (drop (b.start.at + n)) (sym (append-nil all)) ∙ dropped n [] within ∙ append-nil (drop n b.octets)),
  )

  -- after the last octet nothing is left
  pub none_left : b.next ≡ length b.octets → remaining_text b all ≡ []
  none_left over = ap (after_line_if b.in_bad_line) (drop_all (b.start.at + b.next) all (omega (arith, over, held_length))) ∙ no_line b.in_bad_line
    where
      no_line : (in_bad_line : Bool) → after_line_if in_bad_line [] ≡ []
      no_line true = refl
      no_line false = refl

  -- the octets that were read are dropped
  pub holds_rest : (c : Blocks) → LetsRead b c → BuffersSuffix all c
  holds_rest c g =
      let split : b.octets ≡ take b.next b.octets ++ drop b.next b.octets = sym (take-append-drop b.next b.octets) in
      record {
        before = h.before ++ take b.next b.octets;
        is = h.is ∙ ap (λ l. h.before ++ l) split ∙ sym (append_assoc h.before (take b.next b.octets) (drop b.next b.octets)) ∙ ap (λ l. (h.before ++ take b.next b.octets) ++ l) (sym (ap (λ (x : Blocks). x.octets) g.same));
        at = omega (arith, g.at, h.at, length-append h.before (take b.next b.octets), length-take-le b.next b.octets g.within);
        position = g.position h.before h.position;
      }

-- the text that is left is unchanged
pub ahead_rest : (b c : Blocks) (more : List ℕ) → LetsRead b c → remaining_held c more ≡ remaining_held b more
ahead_rest b c more g = ap (λ (x : Blocks). remaining_held x more) g.same
