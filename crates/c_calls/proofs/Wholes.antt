-- The pieces of a text, read one by one, and the entries that end among them.
use Rattle.std.proofs.Common.{ℕ, ◌≡◌, ◌+◌, ◌≤◌, List, [], ◌∷◌, ◌++◌, length, refl, sym, ap, subst, ◌∙◌, arith, append-nil, append_assoc, inl, inr, ◌⊎◌, Some, None, Result, Ok, Err}
use Rattle.std.specs.Prelude.{drop, encode_utf8_all, map}
use Rattle.dns_lexer.specs.Pieces.{EachWithin, IsPieces, IsWithin, Reads, ReadsOctets, ReadsOctetsFrom, end_at, later}
use Rattle.dns_lexer.specs.declared.pieces.Fault.{Fault}
use Rattle.dns_lexer.specs.declared.pieces.Piece.{Piece}
use Rattle.dns_lexer.specs.declared.pieces.Piece.TheVariants.{Word as WordAt, Quote as QuoteAt, Comment as CommentAt, End as EndAt}
use Rattle.dns_lexer.proofs.PieceGiven.{tail_of}
use Rattle.c_calls.specs.WholeEntries.{EndsEntries, end_after}
use Rattle.c_calls.proofs.LastEnds.{last_piece}

abbrev Given : Type 0
Given = List (Result Piece Fault)

end_joined : (at : ℕ) (front back : Given) → end_after at (front ++ back) ≡ end_after (end_after at front) back
end_joined at [] back = refl
end_joined at (Ok (WordAt p) ∷ front) back = end_joined at front back
end_joined at (Ok (QuoteAt p) ∷ front) back = end_joined at front back
end_joined at (Ok (CommentAt p) ∷ front) back = end_joined at front back
end_joined at (Ok (EndAt e) ∷ front) back = end_joined e.at front back
end_joined at (Err f ∷ front) back = end_joined at front back

end_within : (n ended : ℕ) (piece : Piece) → ended ≤ n → IsWithin n (Ok piece) → end_after ended (Ok piece ∷ []) ≤ n
end_within n ended (WordAt p) few h = few
end_within n ended (QuoteAt p) few h = few
end_within n ended (CommentAt p) few h = few
end_within n ended (EndAt e) few h = h

-- the pieces before the last one, up to which entries ended
abbrev pub EndsBefore : ℕ → ℕ → Given → Type 0
EndsBefore at whole done = ((whole ≡ at) × (done ≡ [])) ⊎ ((front : Given) × (last : Piece) × (done ≡ front ++ Ok last ∷ []) × (whole ≡ end_after at front))

-- pieces that were read, and those that are left
pub record ReadsPieces (text : List ℕ) (at whole ended : ℕ) (left : Given) : Type 0 where
  pub done : Given
  pub reads : ReadsOctetsFrom text at (done ++ left)
  pub ended_is : ended ≡ end_after at done
  pub before : EndsBefore at whole done
  pub short : ended ≤ length text
  pub shorter : whole ≤ length text
  pub within : EachWithin (length text) left

pub none_read : (text : List ℕ) (at : ℕ) (left : Given) → at ≤ length text → ReadsOctetsFrom text at left → EachWithin (length text) left → ReadsPieces text at at at left
none_read text at left few reads within = record { done = []; reads = reads; ended_is = refl; before = inl (refl, refl); short = few; shorter = few; within = within }

pub piece_read : (text : List ℕ) (at whole ended next : ℕ) (piece : Piece) (old left : Given) → ReadsPieces text at whole ended old → old ≡ Ok piece ∷ left → next ≡ end_after ended (Ok piece ∷ []) → ReadsPieces text at ended next left
piece_read text at whole ended next piece old left h is end =
    let within = subst (EachWithin (length text)) is h.within in
    record {
      done = h.done ++ Ok piece ∷ [];
      reads = subst (ReadsOctetsFrom text at) (ap (λ l. h.done ++ l) is ∙ sym (append_assoc h.done (Ok piece ∷ []) left)) h.reads;
      ended_is = end ∙ ap (λ n. end_after n (Ok piece ∷ [])) h.ended_is ∙ sym (end_joined at h.done (Ok piece ∷ []));
      before = inr (h.done, piece, refl, h.ended_is);
      short = subst (λ n. n ≤ length text) (sym end) (end_within (length text) ended piece h.short within.0);
      shorter = h.short;
      within = within.1;
    }

fault_later : (at : ℕ) (front alone rest : Given) (f : Fault) → front ++ Err f ∷ rest ≡ later at alone → at ≤ f.at
fault_later at [] [] rest f e = cc
fault_later at [] (Ok p ∷ alone) rest f e = cc
fault_later at [] (Err g ∷ alone) rest f e = let is : f.at ≡ at + g.at = cc in omega (arith, is)
fault_later at (x ∷ front) [] rest f e = cc
fault_later at (x ∷ front) (y ∷ alone) rest f e = fault_later at front alone rest f (ap tail_of e)

pub fault_read : (text : List ℕ) (at whole ended : ℕ) (fault : Fault) (old left : Given) → ReadsPieces text at whole ended old → old ≡ Err fault ∷ left → EndsEntries text at ended (Some fault) × (at ≤ fault.at)
fault_read text at whole ended fault old left h is =
    let reads = subst (ReadsOctetsFrom text at) (ap (λ l. h.done ++ l) is) h.reads in ((h.done, left, reads, h.ended_is), fault_later at h.done reads.0 left fault reads.2)

none_joined : {A : Type 0} (front : List A) (x : A) → [] ≡ front ++ x ∷ [] → ⊥
none_joined [] x e = cc
none_joined (y ∷ front) x e = cc

abbrev given_of : List Piece → Given
given_of found = map Ok found

-- a text has a piece or an error
some_read : (text : List ℕ) → Reads text [] → ⊥
some_read text (inl w) = some_found w.found w.is w.placed
  where
    some_found : (found : List Piece) → [] ≡ given_of found → IsPieces text found → ⊥
    some_found [] e p = let l = last_piece text [] p in none_joined l.0 (end_at (length text) l.1) l.2
    some_found (q ∷ found) e p = cc
some_read text (inr f) = none_joined (map Ok f.found) (Err f.fault) f.is

some_given : (text : List ℕ) (at : ℕ) → ReadsOctetsFrom text at [] → ⊥
some_given text at reads = alone_given reads.0 reads.1 reads.2
  where
    alone_given : (alone : Given) → ReadsOctets (drop at text) alone → [] ≡ later at alone → ⊥
    alone_given [] h e = some_read (encode_utf8_all (drop at text)) h
    alone_given (x ∷ alone) h e = cc

pub all_read : (text : List ℕ) (at whole ended : ℕ) (left : Given) → ReadsPieces text at whole ended left → left ≡ [] → EndsEntries text at whole None
all_read text at whole ended left h is = ends h.before (subst (ReadsOctetsFrom text at) (ap (λ l. h.done ++ l) is ∙ append-nil h.done) h.reads)
  where
    ends : EndsBefore at whole h.done → ReadsOctetsFrom text at h.done → EndsEntries text at whole None
    ends (inl none) reads = absurd (some_given text at (subst (ReadsOctetsFrom text at) none.1 reads))
    ends (inr some) reads = (some.0, some.1, subst (ReadsOctetsFrom text at) some.2 reads, some.3)
