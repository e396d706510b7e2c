-- Two texts that are compared piece by piece.
use Rattle.std.proofs.Common.{◌≡◌, ℕ, true, false, List, [], ◌∷◌, ◌++◌, length, take, arith, refl, sym, ap, ◌∙◌, subst, append_assoc, append-nil}
use Rattle.std.specs.Prelude.{Option, Some, None, map, Result, Ok, Err, encode_utf8_all}
use Rattle.dns_lexer.specs.declared.pieces.Piece.{Piece}
use Rattle.dns_lexer.specs.declared.pieces.Piece.TheVariants.{Word as WordAt, Quote as QuoteAt, Comment as CommentAt, End as EndAt}
use Rattle.dns_lexer.specs.declared.pieces.Fault.{Fault}
use Rattle.dns_lexer.specs.declared.position.Position.{Position}
use Rattle.dns_lexer.specs.Pieces.{ReadsOctets, EachWithin, IsWithin, tokens_by_entry, moved_piece, piece_start, place_of}
use Rattle.dns_lexer.proofs.PieceSplit.{pieces_split}
use Rattle.zonetext_lib.specs.Entries.{ComparedPart, HasTokenEntries, ended_after_pieces, ended_by, parts, with_tokens}
use Rattle.zonetext_lib.specs.Found.{IsOctetFault}
use Rattle.zonetext_lib.specs.Compare.{part, compared_parts, is_passed, SkipsToPart, ComesNext, ContinuesWithPart, DifferAt, NoCommon}
use Rattle.zone_format.specs.Place.{IsAt}
use Rattle.std.proofs.lemmas.List.{append_cancel_left, map-append, take_all}
use Rattle.zone_format.proofs.Givens.{first_fault, pieces_after, pieces_in, whole_of}
use Rattle.zonetext_lib.proofs.Givens.{fault_of}
use Rattle.zonetext_lib.proofs.Cuts.{fault_after}
use Rattle.zonetext_lib.proofs.Once.{entries_once}
use Rattle.zonetext_lib.proofs.Parts.{ended_append, says_append}
use Rattle.zonetext_lib.proofs.Passing.{within_after}

-- octets of the grammar have the entries of their pieces
pub zone_tokens : (octets : List ℕ) (given : List (Result Piece Fault)) → ReadsOctets octets given → first_fault given ≡ None → HasTokenEntries octets (compared_parts octets None (pieces_in given))
zone_tokens octets given r none = (parts octets (pieces_in given), (pieces_in given, whole_of octets given r none, refl), refl)

zone_has : (octets : List ℕ) (given : List (Result Piece Fault)) (es : List ComparedPart) → ReadsOctets octets given → EachWithin (length octets) given → HasTokenEntries octets es
    → es ≡ compared_parts octets None (pieces_in given)
zone_has octets given es r w h = go (first_fault given) refl
  where
    go : (o : Option Fault) → first_fault given ≡ o → es ≡ compared_parts octets None (pieces_in given)
    go None none = sym h.2 ∙ ap (with_tokens false) (entries_once octets h.0 (parts octets (pieces_in given)) h.1 (pieces_in given, whole_of octets given r none, refl))
    go (Some f) some =
        let bad = fault_of octets given f r w some in
        let text = encode_utf8_all octets in
        let found = map (moved_piece (place_of octets)) h.1.0 in
        absurd (bad.is.bad.splits_not (tokens_by_entry text found) (pieces_split text found h.1.1))

abbrev first_part : List ComparedPart → Option ComparedPart
first_part [] = None
first_part (e ∷ es) = Some e

next_is : (octets : List ℕ) (ended : Option ℕ) (rest : List (Result Piece Fault)) (e : Option ComparedPart) (at : ℕ) → ComesNext octets ended rest e at
    → first_part (compared_parts octets ended (pieces_in rest)) ≡ e
next_is octets ended [] e at h = sym h.0
next_is octets ended (Ok p ∷ given) e at h =
    ap first_part (says_append octets ended (p ∷ []) (pieces_in given) ∙ ap (λ l. l ++ compared_parts octets (ended_by ended p) (pieces_in given)) h.2) ∙ sym h.0
next_is octets ended (Err f ∷ given) e at h = absurd h

goes_on_with : (octets : List ℕ) (common : List ComparedPart) (e : Option ComparedPart) (p : Position) (es : List ComparedPart) → (x : ContinuesWithPart octets common e p) → HasTokenEntries octets es
    → es ≡ common ++ compared_parts octets (ended_after_pieces None x.before) (pieces_in x.rest)
goes_on_with octets common e p es x h =
    zone_has octets (map Ok x.before ++ x.rest) es x.reads x.within h ∙ ap (compared_parts octets None) (pieces_after x.before x.rest) ∙ says_append octets None x.before (pieces_in x.rest)
    ∙ ap (λ l. l ++ compared_parts octets (ended_after_pieces None x.before) (pieces_in x.rest)) x.is

pub no_common : (first second : List ℕ) (p q : Position) → DifferAt first second p q → NoCommon first second
no_common first second p q d = λ es h k.
    let one = goes_on_with first d.common d.one p es d.in_first h in
    let two = goes_on_with second d.common d.other q es d.in_second k in
    let a : Option ℕ = ended_after_pieces None d.in_first.before in
    let b : Option ℕ = ended_after_pieces None d.in_second.before in
    let rest = append_cancel_left d.common (compared_parts first a (pieces_in d.in_first.rest)) (compared_parts second b (pieces_in d.in_second.rest)) (sym one ∙ two) in
    d.apart (sym (next_is first a d.in_first.rest d.one d.in_first.at d.in_first.next) ∙ ap first_part rest ∙ next_is second b d.in_second.rest d.other d.in_second.at d.in_second.next)

-- of a text these pieces were consumed, after which the entry's last token ended here
pub record Taken (octets : List ℕ) (all left : List (Result Piece Fault)) (ended : Option ℕ) (common : List ComparedPart) : Type 0 where
  pub taken : List Piece
  pub is : all ≡ map Ok taken ++ left
  pub ends : ended_after_pieces None taken ≡ ended
  pub says_is : compared_parts octets None taken ≡ common

-- the pieces that were consumed of both are the same parts
pub record InStep (first second : List ℕ) (all_ours all_theirs ours theirs : List (Result Piece Fault)) (ended that_ended : Option ℕ) : Type 0 where
  pub common : List ComparedPart
  pub in_first : Taken first all_ours ours ended common
  pub in_second : Taken second all_theirs theirs that_ended common

pub none_taken : (octets : List ℕ) (all : List (Result Piece Fault)) → Taken octets all all None []
none_taken octets all = record { taken = []; is = refl; ends = refl; says_is = refl }

-- what was passed over
pub passed_taken : (octets : List ℕ) (all old left : List (Result Piece Fault)) (ended : Option ℕ) (common : List ComparedPart) (passed : List Piece) → old ≡ map Ok passed ++ left
    → compared_parts octets ended passed ≡ [] → ended_after_pieces ended passed ≡ ended → Taken octets all old ended common → Taken octets all left ended common
passed_taken octets all old left ended common passed e none stays x = record {
  taken = x.taken ++ passed;
  is = x.is ∙ ap (λ l. map Ok x.taken ++ l) e ∙ sym (append_assoc (map Ok x.taken) (map Ok passed) left) ∙ ap (λ l. l ++ left) (sym (map-append Ok x.taken passed));
  ends = ended_append None x.taken passed ∙ ap (λ o. ended_after_pieces o passed) x.ends ∙ stays;
  says_is = says_append octets None x.taken passed ∙ ap (λ o. compared_parts octets None x.taken ++ compared_parts octets o passed) x.ends ∙ ap (λ l. compared_parts octets None x.taken ++ l) none
      ∙ append-nil (compared_parts octets None x.taken) ∙ x.says_is;
}

pub skipped : (octets : List ℕ) (all old new : List (Result Piece Fault)) (ended : Option ℕ) (common : List ComparedPart) (t : Option (Result Piece Fault)) → Taken octets all old ended common
    → (s : SkipsToPart ended old t new) → Taken octets all s.left ended common
skipped octets all old new ended common t x s = passed_taken octets all old s.left ended common s.passed s.is (s.no_parts octets) s.stays x

pub fault_taken : (octets : List ℕ) (all old new : List (Result Piece Fault)) (ended : Option ℕ) (common : List ComparedPart) (f : Fault) → ReadsOctets octets all → EachWithin (length octets) all
    → Taken octets all old ended common → SkipsToPart ended old (Some (Err f)) new → IsOctetFault octets f
fault_taken octets all old new ended common f r w x s =
    let k = skipped octets all old new ended common (Some (Err f)) x s in
    fault_of octets all f r w (ap first_fault (k.is ∙ ap (λ l. map Ok k.taken ++ l) s.takes) ∙ fault_after k.taken (Err f ∷ new))

pub piece_within : (octets : List ℕ) (all old new : List (Result Piece Fault)) (ended : Option ℕ) (common : List ComparedPart) (p : Piece) → EachWithin (length octets) all
    → Taken octets all old ended common → SkipsToPart ended old (Some (Ok p)) new → IsWithin (length octets) (Ok p)
piece_within octets all old new ended common p w x s =
    let k = skipped octets all old new ended common (Some (Ok p)) x s in
    (within_after (length octets) k.taken (Ok p ∷ new) (subst (EachWithin (length octets)) (k.is ∙ ap (λ l. map Ok k.taken ++ l) s.takes.0) w)).0

-- a text that went on with a piece, or ended
pub taken_part : (octets : List ℕ) (all old new : List (Result Piece Fault)) (ended : Option ℕ) (common : List ComparedPart) (p : Piece) (q : Position) → ReadsOctets octets all
    → EachWithin (length octets) all → Taken octets all old ended common → SkipsToPart ended old (Some (Ok p)) new → IsAt 0 (take (piece_start p) octets) q → ContinuesWithPart octets common (Some (part octets ended p)) q
taken_part octets all old new ended common p q r w x s i =
    let k = skipped octets all old new ended common (Some (Ok p)) x s in
    let e : all ≡ map Ok k.taken ++ Ok p ∷ new = k.is ∙ ap (λ l. map Ok k.taken ++ l) s.takes.0 in
    record {
      before = k.taken;
      rest = Ok p ∷ new;
      reads = subst (ReadsOctets octets) e r;
      within = subst (EachWithin (length octets)) e w;
      is = k.says_is;
      at = piece_start p;
      next = subst (λ o. ComesNext octets o (Ok p ∷ new) (Some (part octets ended p)) (piece_start p)) (sym k.ends) (refl, refl, s.takes.1 octets);
      position = i;
    }

ended_is : (octets : List ℕ) (all old new : List (Result Piece Fault)) (ended : Option ℕ) (common : List ComparedPart) → (x : Taken octets all old ended common) → (s : SkipsToPart ended old None new)
    → all ≡ map Ok (skipped octets all old new ended common None x s).taken ++ []
ended_is octets all old new ended common x s = let k = skipped octets all old new ended common None x s in k.is ∙ ap (λ l. map Ok k.taken ++ l) s.takes.0

pub ended_part : (octets : List ℕ) (all old new : List (Result Piece Fault)) (ended : Option ℕ) (common : List ComparedPart) (q : Position) → ReadsOctets octets all → EachWithin (length octets) all
    → Taken octets all old ended common → SkipsToPart ended old None new → IsAt 0 octets q → ContinuesWithPart octets common None q
ended_part octets all old new ended common q r w x s i =
    let k = skipped octets all old new ended common None x s in
    let e = ended_is octets all old new ended common x s in
    record {
      before = k.taken;
      rest = [];
      reads = subst (ReadsOctets octets) e r;
      within = subst (EachWithin (length octets)) e w;
      is = k.says_is;
      at = length octets;
      next = (refl, refl);
      position = subst (λ l. IsAt 0 l q) (sym (take_all (length octets) octets (omega arith))) i;
    }

pub ended_tokens : (octets : List ℕ) (all old new : List (Result Piece Fault)) (ended : Option ℕ) (common : List ComparedPart) → ReadsOctets octets all → Taken octets all old ended common
    → SkipsToPart ended old None new → HasTokenEntries octets common
ended_tokens octets all old new ended common r x s =
    let k = skipped octets all old new ended common None x s in
    let e = ended_is octets all old new ended common x s in
    let none : first_fault all ≡ None = ap first_fault e ∙ fault_after k.taken [] in
    let same : compared_parts octets None (pieces_in all) ≡ common =
    ap (λ l. compared_parts octets None (pieces_in l)) e ∙ ap (compared_parts octets None) (pieces_after k.taken [] ∙ append-nil k.taken) ∙ k.says_is in
    subst (HasTokenEntries octets) same (zone_tokens octets all r none)

-- two texts that went on with different parts
pub apart : (first second : List ℕ) (common : List ComparedPart) (e f : Option ComparedPart) (p q : Position) → ContinuesWithPart first common e p → ContinuesWithPart second common f q → (e ≡ f → ⊥)
    → DifferAt first second p q × NoCommon first second
apart first second common e f p q g h other =
    let d : DifferAt first second p q = record { common = common; one = e; other = f; in_first = g; in_second = h; apart = other } in
    (d, no_common first second p q d)

-- one more part
part_on : (octets : List ℕ) (all old new : List (Result Piece Fault)) (ended : Option ℕ) (common : List ComparedPart) (p : Piece) (e : ComparedPart) → Taken octets all old ended common
    → SkipsToPart ended old (Some (Ok p)) new → part octets ended p ≡ e → Taken octets all new (ended_by ended p) (common ++ e ∷ [])
part_on octets all old new ended common p e x s same =
    let k = skipped octets all old new ended common (Some (Ok p)) x s in
    record {
      taken = k.taken ++ p ∷ [];
      is = k.is ∙ ap (λ l. map Ok k.taken ++ l) s.takes.0 ∙ sym (append_assoc (map Ok k.taken) (Ok p ∷ []) new) ∙ ap (λ l. l ++ new) (sym (map-append Ok k.taken (p ∷ [])));
      ends = ended_append None k.taken (p ∷ []) ∙ ap (λ o. ended_by o p) k.ends;
      says_is = says_append octets None k.taken (p ∷ []) ∙ ap (λ o. compared_parts octets None k.taken ++ compared_parts octets o (p ∷ [])) k.ends
          ∙ ap (λ l. compared_parts octets None k.taken ++ l) (s.takes.1 octets) ∙ ap (λ l. l ++ part octets ended p ∷ []) k.says_is ∙ ap (λ t. common ++ t ∷ []) same;
    }

pub both_on : (first second : List ℕ) (all_ours all_theirs ours theirs new new2 : List (Result Piece Fault)) (ended that_ended next that_next : Option ℕ) (p q : Piece)
    → InStep first second all_ours all_theirs ours theirs ended that_ended → SkipsToPart ended ours (Some (Ok p)) new → SkipsToPart that_ended theirs (Some (Ok q)) new2
    → part first ended p ≡ part second that_ended q → next ≡ ended_by ended p → that_next ≡ ended_by that_ended q → InStep first second all_ours all_theirs new new2 next that_next
both_on first second all_ours all_theirs ours theirs new new2 ended that_ended next that_next p q x s t same a b =
    let e : ComparedPart = part second that_ended q in
    record {
      common = x.common ++ e ∷ [];
      in_first = subst (λ o. Taken first all_ours new o (x.common ++ e ∷ [])) (sym a) (part_on first all_ours ours new ended x.common p e x.in_first s same);
      in_second = subst (λ o. Taken second all_theirs new2 o (x.common ++ e ∷ [])) (sym b) (part_on second all_theirs theirs new2 that_ended x.common q e x.in_second t refl);
    }

pub none_in_step : (first second : List ℕ) (ours theirs : List (Result Piece Fault)) → InStep first second ours theirs ours theirs None None
none_in_step first second ours theirs = record { common = []; in_first = none_taken first ours; in_second = none_taken second theirs }

-- pieces that aren't parts were skipped
pub record PassedOver (ended : Option ℕ) (old now : List (Result Piece Fault)) : Type 0 where
  pub passed : List Piece
  pub is : old ≡ map Ok passed ++ now
  pub no_parts : (octets : List ℕ) → compared_parts octets ended passed ≡ []
  pub stays : ended_after_pieces ended passed ≡ ended

-- a piece that is passed over, and one that is not
pub over_one : (ended : Option ℕ) (p : Piece) → is_passed ended (Ok p) ≡ true → ((octets : List ℕ) → compared_parts octets ended (p ∷ []) ≡ []) × (ended_by ended p ≡ ended)
over_one ended (WordAt p) h = cc
over_one ended (QuoteAt p) h = cc
over_one ended (CommentAt p) h = (λ octets. refl, refl)
over_one None (EndAt p) h = (λ octets. refl, refl)
over_one (Some e) (EndAt p) h = cc

pub is_part : (ended : Option ℕ) (p : Piece) → is_passed ended (Ok p) ≡ false → (octets : List ℕ) → compared_parts octets ended (p ∷ []) ≡ part octets ended p ∷ []
is_part ended (WordAt p) h octets = refl
is_part ended (QuoteAt p) h octets = refl
is_part ended (CommentAt p) h octets = cc
is_part None (EndAt p) h octets = cc
is_part (Some e) (EndAt p) h octets = refl

pub over_on : (ended : Option ℕ) (old now new : List (Result Piece Fault)) (p : Piece) → is_passed ended (Ok p) ≡ true → now ≡ Ok p ∷ new → PassedOver ended old now → PassedOver ended old new
over_on ended old now new p h e o =
    let one = over_one ended p h in
    record {
      passed = o.passed ++ p ∷ [];
      is = o.is ∙ ap (λ l. map Ok o.passed ++ l) e ∙ sym (append_assoc (map Ok o.passed) (Ok p ∷ []) new) ∙ ap (λ l. l ++ new) (sym (map-append Ok o.passed (p ∷ [])));
      no_parts = λ octets. says_append octets ended o.passed (p ∷ []) ∙ ap (λ x. compared_parts octets ended o.passed ++ compared_parts octets x (p ∷ [])) o.stays
          ∙ ap (λ l. compared_parts octets ended o.passed ++ l) (one.0 octets) ∙ append-nil (compared_parts octets ended o.passed) ∙ o.no_parts octets;
      stays = ended_append ended o.passed (p ∷ []) ∙ ap (λ x. ended_by x p) o.stays ∙ one.1;
    }

pub none_over : (ended : Option ℕ) (old : List (Result Piece Fault)) → PassedOver ended old old
none_over ended old = record { passed = []; is = refl; no_parts = λ octets. none ended octets; stays = refl }
  where
    none : (ended : Option ℕ) (octets : List ℕ) → compared_parts octets ended [] ≡ []
    none None octets = refl
    none (Some e) octets = refl

pub passed_piece : (ended : Option ℕ) (x : Result Piece Fault) → is_passed ended x ≡ true → (p : Piece) × (x ≡ Ok p)
passed_piece ended (Ok p) h = (p, refl)
passed_piece None (Err f) h = cc
passed_piece (Some e) (Err f) h = cc
