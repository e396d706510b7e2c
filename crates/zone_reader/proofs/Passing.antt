-- Ends of entries that are skipped.
use Rattle.std.proofs.Common.{◌≡◌, ℕ, Bool, true, false, ◌+◌, ◌*◌, List, [], ◌∷◌, ◌++◌, length, refl, sym, ap, ◌∙◌, subst, append_assoc, Option, Some, None}
use Rattle.std.specs.Prelude.{if◌then◌else◌, map, is_some, Result, Ok, Err}
use Rattle.std.specs.Iterator.{YieldsFirstBy}
use Rattle.std.proofs.lemmas.List.{map-append}
use Rattle.dns_lexer.specs.declared.pieces.EndOfEntry.{EndOfEntry}
use Rattle.dns_lexer.specs.declared.pieces.Fault.{Fault}
use Rattle.dns_lexer.specs.declared.entry_tokens.EntryToken.{EntryToken}
use Rattle.dns_lexer.specs.declared.entry_tokens.EntryPart.TheVariants.{Token as TokenOf, End as EndOf}
use Rattle.dns_lexer.specs.EntryTokens.{EndIs, IsInEntries, IsOpen, answer_seen}
use Rattle.zone_reader.specs.declared.source.StartOfEntry.{StartOfEntry}
use Rattle.zone_reader.specs.Source.{BeginsEntry, FinishesEntry, IsAtStart, IsOpenBefore, SourceSeen, parts_after_unread, last_end, source_seen}
use Rattle.zone_reader.proofs.SeenParts.{Next, Parts, looked_at, opens_before, with_next}

abbrev pub ends_of : List EndOfEntry → Parts
ends_of ends = map (λ e. Ok (EndIs e)) ends

-- after what was left of the open entry, ends come first, and then these parts
pub record PassesTo (old : SourceSeen) (parts : Parts) (began : ℕ) : Type 0 where
  pub ends : List EndOfEntry
  pub passed : parts_after_unread old ≡ ends_of ends ++ parts
  pub began_at : began ≡ last_end old.began ends

pub passes_none : (old : SourceSeen) → PassesTo old (parts_after_unread old) old.began
passes_none old = record { ends = []; passed = refl; began_at = refl }

last_more : (began : ℕ) (ends : List EndOfEntry) (end : EndOfEntry) → last_end began (ends ++ end ∷ []) ≡ end.at
last_more began [] end = refl
last_more began (e ∷ ends) end = last_more e.at ends end

-- how much is still to be skipped
abbrev pub still : SourceSeen → ℕ
still s = 2 * length (parts_after_unread s) + (if s.is_open then 0 else 1)

-- a part that `finish` takes is one more to skip
pub passes_more : (old now new : SourceSeen) (r : Option EndOfEntry) → PassesTo old (parts_after_unread now) now.began → FinishesEntry now (Ok r) new → PassesTo old new.parts new.began
passes_more old now new None p f = record {
  ends = p.ends;
  passed = p.passed ∙ ap (λ l. ends_of p.ends ++ l) (closed now.is_open f.0 ∙ sym (ap (λ s. s.parts) f.1));
  began_at = ap (λ s. s.began) f.1 ∙ p.began_at;
}
  where
    closed : (b : Bool) → b ≡ false → parts_after_unread (record { began = now.began; is_open = b; taken = now.taken; parts = now.parts }) ≡ now.parts
    closed false e = refl
    closed true e = cc
passes_more old now new (Some end) p f = record {
  ends = p.ends ++ end ∷ [];
  passed = p.passed ∙ ap (λ l. ends_of p.ends ++ l) f.1 ∙ sym (append_assoc (ends_of p.ends) (ends_of (end ∷ [])) new.parts)
      ∙ ap (λ l. l ++ new.parts) (sym (map-append _ p.ends (end ∷ [])));
  began_at = f.3 ∙ sym (last_more old.began p.ends end);
}

-- if a token, the text's end or a syntax error comes next, `begin` stops there
pub begins_at : (old new : SourceSeen) (result : Result (Option StartOfEntry) Fault) → PassesTo old new.parts new.began → IsAtStart result new → BeginsEntry old result new
begins_at old new result p s = record { ends = p.ends; passed = p.passed; began = p.began_at; start = s }

pub at_token : (began : ℕ) (token : EntryToken) (b : Bool) (tokens : Parts) → IsOpenBefore (Some (Ok (TokenOf token b))) tokens
    → IsAtStart (Ok (Some (record { at = began; begins_blank = b }))) (source_seen began (Some (Ok (TokenOf token b))) None tokens)
at_token began token b tokens o = (refl, refl, (refl, subst (λ x. IsOpen x tokens) (sym o.1.0) o.1.1), tt, refl)

-- a syntax error that `finish` finds stays
pub stops_at : (old now new : SourceSeen) (f : Fault) → PassesTo old (parts_after_unread now) now.began → FinishesEntry now (Err f) new → BeginsEntry old (Err f) new
stops_at old now new f p h = record {
  ends = p.ends;
  passed = p.passed ∙ ap (λ l. ends_of p.ends ++ l) (h.1 ∙ sym (ap (λ s. s.parts) h.2));
  began = ap (λ s. s.began) h.2 ∙ p.began_at;
  start = (ap (λ s. s.is_open) h.2, ap (λ s. s.parts) h.2);
}

-- no entry is open, and the next part is read ahead
module _ (old now middle : SourceSeen) (r : Option EndOfEntry) (began : ℕ) (taken : Option ℕ) (before next : Next) (tokens later : Parts) (p : PassesTo old (parts_after_unread now) now.began) (f : FinishesEntry now (Ok r) middle)
    (seen : source_seen began before taken tokens ≡ middle) (looks : YieldsFirstBy answer_seen (λ (left : Parts). left) tokens next later) (entries : IsInEntries tokens) where
  finished_closed : (o : Option EndOfEntry) → FinishesEntry now (Ok o) middle → middle.is_open ≡ false
  finished_closed None h = ap (λ s. s.is_open) h.1 ∙ h.0
  finished_closed (Some x) h = h.2

  pub passes_on : PassesTo old (with_next next later) began
  passes_on = subst (λ l. PassesTo old l began) (same ∙ looked_at tokens later next looks) (subst (λ n. PassesTo old middle.parts n) (ap (λ s. s.began) (sym seen)) (passes_more old now middle r p f))
    where
      none : (b : Next) → is_some b ≡ false → with_next b tokens ≡ tokens
      none None e = refl
      none (Some x) e = cc

      same : middle.parts ≡ tokens
      same = ap (λ s. s.parts) (sym seen) ∙ none before (ap (λ s. s.is_open) seen ∙ finished_closed r f)

  pub begins_token : (token : EntryToken) (b : Bool) → next ≡ Some (Ok (TokenOf token b)) → BeginsEntry old (Ok (Some (record { at = began; begins_blank = b }))) (source_seen began next None later)
  begins_token token b e = begins_at old (source_seen began next None later) _ passes_on
      (subst (λ n. IsOpenBefore n later → IsAtStart (Ok (Some (record { at = began; begins_blank = b }))) (source_seen began n None later)) (sym e) (at_token began token b later) (opens_before tokens later next looks entries))

  pub begins_fault : (fault : Fault) → next ≡ Some (Err fault) → BeginsEntry old (Err fault) (source_seen began next None later)
  begins_fault fault e = begins_at old (source_seen began next None later) _ passes_on
      (subst (λ n. IsOpenBefore n later → IsAtStart (Err fault) (source_seen began n None later)) (sym e) (λ o. (refl, ap (λ l. Err fault ∷ l) o.1)) (opens_before tokens later next looks entries))

  pub begins_none : next ≡ None → BeginsEntry old (Ok None) (source_seen began next None later)
  begins_none e = begins_at old (source_seen began next None later) _ passes_on
      (subst (λ n. YieldsFirstBy answer_seen (λ (left : Parts). left) tokens n later → IsAtStart (Ok None) (source_seen began n None later)) (sym e) (λ y. (refl, y.1)) looks)

  pub passes_end : (end : EndOfEntry) → next ≡ Some (Ok (EndOf end)) → PassesTo old (parts_after_unread (source_seen began next None later)) began
  passes_end end e = subst (λ n. PassesTo old (with_next n later) began → PassesTo old (parts_after_unread (source_seen began n None later)) began) (sym e) (λ q. q) passes_on
