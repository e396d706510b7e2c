-- The entries of a text that splits are those that it splits into.
use Rattle.std.proofs.Common.{ℕ, ◌≡◌, Bool, List, [], ◌∷◌, ◌++◌, refl, sym, ap, ◌∙◌, subst, append_assoc, append-nil, inl, Option, Some, None, Result, Ok, Err}
use Rattle.std.specs.Prelude.{⊤, map}
use Rattle.dns_lexer.specs.declared.pieces.EndOfEntry.{EndOfEntry}
use Rattle.dns_lexer.specs.declared.pieces.Fault.{Fault}
use Rattle.dns_lexer.specs.declared.pieces.Piece.{Piece}
use Rattle.dns_lexer.specs.declared.pieces.Piece.TheVariants.{Word as WordAt, Quote as QuoteAt, Comment as CommentAt, End as EndAt}
use Rattle.dns_lexer.specs.EntryTokens.{EndIs, IsSeen, IsSeenFrom, TokenIs, TokenSeen, entries_seen, seen_from, spelled}
use Rattle.dns_lexer.specs.Pieces.{AreOctets, AreItemsOf}
use Rattle.dns_lexer.specs.Splitting.{Entries, Splits, with_token}
use Rattle.dns_lexer.proofs.Blocks.{nothing_given}
use Rattle.dns_lexer.proofs.EntryLaws.{text_entries}
use Rattle.dns_lexer.proofs.OctetFaults.{given_alike}
use Rattle.dns_lexer.proofs.OctetOpeners.{splits_utf8}
use Rattle.dns_lexer.proofs.OctetsOnce.{given_once}
use Rattle.dns_lexer.proofs.PieceSplit.{split_pieces}
use Rattle.zone_reader.specs.TextEntries.{ContinuesAt, IsSeenPastFaults, TextEntry, at_start, behind_fault, end_seen, parts_of_entries, spelled_tokens}
use Rattle.zone_reader.specs.WholeTexts.{ReadEntriesAreSplit}
use Rattle.zone_reader.proofs.SeenParts.{Parts}

-- no part is a syntax error
abbrev HaveNoFault : Parts → Type 0
HaveNoFault [] = ⊤
HaveNoFault (Ok p ∷ parts) = HaveNoFault parts
HaveNoFault (Err f ∷ parts) = ⊥

fault_inside : (front back : Parts) (f : Fault) → HaveNoFault (front ++ Err f ∷ back) → ⊥
fault_inside [] back f h = h
fault_inside (Ok p ∷ front) back f h = fault_inside front back f h
fault_inside (Err g ∷ front) back f h = h

none_behind : (front back : Parts) → HaveNoFault (front ++ back) → HaveNoFault back
none_behind [] back h = h
none_behind (Ok p ∷ front) back h = none_behind front back h
none_behind (Err g ∷ front) back h = absurd h

pieces_faultless : (octets : List ℕ) (began : ℕ) (ended : Option ℕ) (found : List Piece) → HaveNoFault (seen_from octets began ended (map Ok found))
pieces_faultless octets began ended [] = tt
pieces_faultless octets began ended (WordAt p ∷ found) = pieces_faultless octets began (Some p.end) found
pieces_faultless octets began ended (QuoteAt p ∷ found) = pieces_faultless octets began (Some p.end) found
pieces_faultless octets began ended (CommentAt p ∷ found) = pieces_faultless octets began ended found
pieces_faultless octets began ended (EndAt e ∷ found) = pieces_faultless octets e.at None found

module _ (octets : List ℕ) (are : AreOctets octets) where
  -- from the start on all is seen
  seen_whole : (parts : Parts) → IsSeenFrom octets 0 parts → IsSeen octets parts
  seen_whole parts s =
      let g = s.1 in
      (s.0, subst (AreItemsOf octets) (sym g.2) (nothing_given octets g.0 are g.1), s.2)

  module _ (found : Entries) (splits : Splits octets found) where
    faultless : (parts : Parts) → IsSeen octets parts → HaveNoFault parts
    faultless parts s =
        let p = split_pieces octets found splits in
        let g : AreItemsOf octets (map Ok p.0) = (given_alike octets (splits_utf8 octets found splits) are (map Ok p.0)).0 (inl (record { found = p.0; is = refl; placed = p.1 })) in
        subst HaveNoFault (sym (s.2 ∙ ap (seen_from octets 0 None) (given_once octets s.0 (map Ok p.0) s.1 g))) (pieces_faultless octets 0 None p.0)

    from_start : (passed : Parts) (at : ℕ) → ContinuesAt octets passed at → (passed ≡ []) × (at ≡ 0)
    from_start passed at at_start = (refl, refl)
    from_start passed at (behind_fault before front place next fault goes seen line) =
        let first = from_start before place goes in
        absurd (fault_inside front [] fault (faultless (front ++ Err fault ∷ []) (seen_whole (front ++ Err fault ∷ []) (subst (λ n. IsSeenFrom octets n (front ++ Err fault ∷ [])) first.1 seen))))

    pub all_seen : (parts : Parts) → IsSeenPastFaults octets parts [] → IsSeen octets parts
    all_seen parts s =
        let first = from_start s.passed s.at s.goes_on in
        let is : parts ≡ s.front ++ [] = s.seen_are ∙ ap (λ l. l ++ s.front) first.0 ∙ sym (append-nil s.front) in
        subst (IsSeen octets) (sym is) (seen_whole (s.front ++ []) (subst (λ n. IsSeenFrom octets n (s.front ++ [])) first.1 s.from))

-- the tokens of an entry, as they are spelled
tokens_spelled : (blank : Bool) (tokens : List TokenSeen) (e : EndOfEntry) (rest : Parts)
    → entries_seen (map (λ t. Ok (TokenIs t blank)) tokens ++ (Ok (EndIs e) ∷ rest)) ≡ map spelled tokens ∷ entries_seen rest
tokens_spelled blank [] e rest = refl
tokens_spelled blank (t ∷ tokens) e rest = ap (with_token (spelled t)) (tokens_spelled blank tokens e rest)

entry_spelled : (blank : Bool) (tokens : List TokenSeen) (end : Result EndOfEntry Fault) (rest : Parts)
    → HaveNoFault ((map (λ t. Ok (TokenIs t blank)) tokens ++ end_seen end ∷ []) ++ rest)
    → (entries_seen ((map (λ t. Ok (TokenIs t blank)) tokens ++ end_seen end ∷ []) ++ rest) ≡ map spelled tokens ∷ entries_seen rest) × HaveNoFault rest
entry_spelled blank tokens (Ok e) rest h =
    let parts : Parts = map (λ t. Ok (TokenIs t blank)) tokens in
    (ap entries_seen (append_assoc parts (Ok (EndIs e) ∷ []) rest) ∙ tokens_spelled blank tokens e rest, none_behind (parts ++ Ok (EndIs e) ∷ []) rest h)
entry_spelled blank tokens (Err f) rest h =
    let parts : Parts = map (λ t. Ok (TokenIs t blank)) tokens in
    absurd (fault_inside parts rest f (subst HaveNoFault (append_assoc parts (Err f ∷ []) rest) h))

all_spelled : (entries : List TextEntry) → HaveNoFault (parts_of_entries entries) → entries_seen (parts_of_entries entries) ≡ map spelled_tokens entries
all_spelled [] h = refl
all_spelled (e ∷ entries) h =
    let first = entry_spelled e.begins_blank e.tokens e.end (parts_of_entries entries) h in
    first.0 ∙ ap (λ l. spelled_tokens e ∷ l) (all_spelled entries first.1)

pub read_entries_are_split : ReadEntriesAreSplit
read_entries_are_split room octets start given found are splits r =
    let seen = all_seen octets are found splits (parts_of_entries r.entries) r.seen in
    sym (all_spelled r.entries (faultless octets are found splits (parts_of_entries r.entries) seen)) ∙ text_entries octets found (parts_of_entries r.entries) are splits seen
