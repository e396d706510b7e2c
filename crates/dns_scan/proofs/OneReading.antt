-- Parsed values are functions of the tokens.
use Rattle.std.proofs.Common.{ℕ, ◌≡◌, List, [], ◌∷◌, sym, ap, subst, ◌∙◌, inl, inr, Option, Some, None, Result, Ok, Err}
use Rattle.std.specs.Prelude.{MatchOption}
use Rattle.dns_octets.specs.Room.{exactly}
use Rattle.dns_scan.specs.declared.kind.Kind.{Kind}
use Rattle.dns_scan.specs.declared.kind.Kind.TheVariants.{U8, U16, U32, U64, U128, Ttl, Other}
use Rattle.dns_symbol.specs.Cause.{Cause, end_of_entry}
use Rattle.dns_scan.specs.Kinds.{KindReads, ReadsAsKind}
use Rattle.dns_scan.specs.Numbers.{by_cause, greatest}
use Rattle.dns_scan.specs.Reads.{NameReads, NumberReads, OctetsRead, ReadInOneWay, ReadsBoth, ReadsEach, ReadsFirstToken, ReadsInOneWay, ReadsInTurn}
use Rattle.dns_scan.specs.Unread.{first_of}
use Rattle.dns_scan.specs.Tokens.{Token}
use Rattle.dns_scan.proofs.Once.{numbers_once}
use Rattle.dns_scan.proofs.OneAnswer.{one_reading}

first_once : {V : Type 0} (reads : Token → Result V Cause → Type 0) → ((t : Token) (q r : Result V Cause) → reads t q → reads t r → q ≡ r) → ReadsInOneWay (ReadsFirstToken reads)
first_once {V} reads once tokens q r rest others h k = (by (first_of tokens) h.0 k.0, h.1 ∙ sym k.1)
  where
    by : (o : Option Token) → MatchOption o (q ≡ Err end_of_entry) (λ t. reads t q) → MatchOption o (r ≡ Err end_of_entry) (λ t. reads t r) → q ≡ r
    by None x y = x ∙ sym y
    by (Some t) x y = once t q r x y

pub number_once : (limit : ℕ) → ReadsInOneWay (ReadsFirstToken (NumberReads limit))
number_once limit = first_once (NumberReads limit) (numbers_once limit)

pub string_once : (size : ℕ) → ReadsInOneWay (ReadsFirstToken (OctetsRead (exactly size)))
string_once size = first_once (OctetsRead (exactly size)) (one_reading size)

pub name_once : {N E : Type 0} (cause : E → Cause) (reads : Token → Result N E → Type 0)
    → ((t : Token) (q r : Result N E) → reads t q → reads t r → by_cause cause q ≡ by_cause cause r) → ReadsInOneWay (ReadsFirstToken (NameReads cause reads))
name_once cause reads once = first_once (NameReads cause reads) (λ t q r h k. h.2 ∙ once t h.0 k.0 h.1 k.1 ∙ sym k.2)

as_once : {A V : Type 0} (make : A → V) (reads : List Token → Result A Cause → List Token → Type 0) → ReadsInOneWay reads → ReadsInOneWay (ReadsAsKind make reads)
as_once make reads once tokens (Ok v) (Ok w) rest others h k =
    let same = once tokens (Ok h.0) (Ok k.0) rest others h.1 k.1 in
    let value : h.0 ≡ k.0 = let is = same.0 in cc is in
    (ap (λ x. Ok x) (h.2 ∙ ap make value ∙ sym k.2), same.1)
as_once make reads once tokens (Ok v) (Err why) rest others h k = let same = (once tokens (Ok h.0) (Err why) rest others h.1 k).0 in cc same
as_once make reads once tokens (Err why) (Ok v) rest others h k = let same = (once tokens (Err why) (Ok k.0) rest others h k.1).0 in cc same
as_once make reads once tokens (Err a) (Err b) rest others h k =
    let same = once tokens (Err a) (Err b) rest others h k in
    let why : a ≡ b = let is = same.0 in cc is in
    (ap (λ x. Err x) why, same.1)

kind_once : {T : Type 0} (other : List Token → Result T Cause → List Token → Type 0) → ReadsInOneWay other → (kind : Kind) → ReadsInOneWay (KindReads other kind)
kind_once other once U8 = as_once _ (ReadsFirstToken (NumberReads (greatest 8))) (number_once (greatest 8))
kind_once other once U16 = as_once _ (ReadsFirstToken (NumberReads (greatest 16))) (number_once (greatest 16))
kind_once other once U32 = as_once _ (ReadsFirstToken (NumberReads (greatest 32))) (number_once (greatest 32))
kind_once other once U64 = as_once _ (ReadsFirstToken (NumberReads (greatest 64))) (number_once (greatest 64))
kind_once other once U128 = as_once _ (ReadsFirstToken (NumberReads (greatest 128))) (number_once (greatest 128))
kind_once other once Ttl = as_once _ (ReadsFirstToken (NumberReads (greatest 32))) (number_once (greatest 32))
kind_once other once Other = as_once _ other once

turn_once : {K V : Type 0} (reads : K → List Token → Result V Cause → List Token → Type 0) → ((k : K) → ReadsInOneWay (reads k)) → (ks : List K) → ReadInOneWay (ReadsInTurn reads ks)
turn_once reads once [] tokens values more refusal other rest others h k = (h.0 ∙ sym k.0, h.1 ∙ sym k.1, h.2 ∙ sym k.2)
turn_once reads once (x ∷ xs) tokens values more refusal other rest others (inl h) (inl k) =
    let same = once x tokens (Ok h.0) (Ok k.0) h.2 k.2 h.3 k.3 in
    let value : h.0 ≡ k.0 = let is = same.0 in cc is in
    let later = turn_once reads once xs k.2 h.1 k.1 refusal other rest others (subst (λ l. ReadsInTurn reads xs l h.1 refusal rest) same.1 h.5) k.5 in
    (h.4 ∙ (λ i. value i ∷ later.0 i) ∙ sym k.4, later.1, later.2)
turn_once reads once (x ∷ xs) tokens values more refusal other rest others (inl h) (inr k) = let same = (once x tokens (Ok h.0) (Err k.0) h.2 others h.3 k.1).0 in cc same
turn_once reads once (x ∷ xs) tokens values more refusal other rest others (inr h) (inl k) = let same = (once x tokens (Err h.0) (Ok k.0) rest k.2 h.1 k.3).0 in cc same
turn_once reads once (x ∷ xs) tokens values more refusal other rest others (inr h) (inr k) =
    let same = once x tokens (Err h.0) (Err k.0) rest others h.1 k.1 in
    let why : h.0 ≡ k.0 = let is = same.0 in cc is in
    (h.2 ∙ sym k.2, h.3 ∙ ap (λ w. Some w) why ∙ sym k.3, same.1)

pub each_once : {V : Type 0} (reads : List Token → Result V Cause → List Token → Type 0) → ReadsInOneWay reads → (count : ℕ) → ReadInOneWay (ReadsEach reads count)
each_once reads once count = turn_once (λ (u : Unit {0}). reads) (λ u. once) _

pub kinds_once : {T : Type 0} (other : List Token → Result T Cause → List Token → Type 0) → ReadsInOneWay other → (kinds : List Kind) → ReadInOneWay (ReadsInTurn (KindReads other) kinds)
kinds_once other once = turn_once (KindReads other) (kind_once other once)

pub both_once : {A B : Type 0} (first : List Token → Result A Cause → List Token → Type 0) (second : List Token → Result B Cause → List Token → Type 0)
    → ReadsInOneWay first → ReadsInOneWay second → ReadsInOneWay (ReadsBoth first second)
both_once {A} {B} first second once later tokens q r rest others h k = by q r h k
  where
    stop : (a : A) (why : Cause) (middle end : List Token) → first tokens (Ok a) middle → first tokens (Err why) end → ⊥
    stop a why middle end x y = let same = (once tokens (Ok a) (Err why) middle end x y).0 in cc same

    after : (a b : A) (middle between : List Token) (x y : Result B Cause) → first tokens (Ok a) middle → first tokens (Ok b) between → second middle x rest → second between y others
        → (a ≡ b) × (x ≡ y) × (rest ≡ others)
    after a b middle between x y p q s t =
        let same = once tokens (Ok a) (Ok b) middle between p q in
        let value : a ≡ b = let is = same.0 in cc is in
        let more = later between x y rest others (subst (λ l. second l x rest) same.1 s) t in
        (value, more.0, more.1)

    by : (q r : Result (A × B) Cause) → ReadsBoth first second tokens q rest → ReadsBoth first second tokens r others → (q ≡ r) × (rest ≡ others)
    by (Ok p) (Ok s) h k =
        let more = after p.0 s.0 h.0 k.0 (Ok p.1) (Ok s.1) h.1 k.1 h.2 k.2 in
        let value : p.1 ≡ s.1 = let is = more.1 in cc is in
        ((λ i. Ok (more.0 i, value i)), more.2)
    by (Ok p) (Err why) h (inl k) = absurd (stop p.0 why h.0 others h.1 k)
    by (Ok p) (Err why) h (inr k) = let more = (after p.0 k.0 h.0 k.1 (Ok p.1) (Err why) h.1 k.2 h.2 k.3).1 in cc more
    by (Err why) (Ok s) (inl h) k = absurd (stop s.0 why k.0 rest k.1 h)
    by (Err why) (Ok s) (inr h) k = let more = (after h.0 s.0 h.1 k.0 (Err why) (Ok s.1) h.2 k.1 h.3 k.2).1 in cc more
    by (Err a) (Err b) (inl h) (inl k) =
        let same = once tokens (Err a) (Err b) rest others h k in
        let why : a ≡ b = let is = same.0 in cc is in
        (ap (λ x. Err x) why, same.1)
    by (Err a) (Err b) (inl h) (inr k) = absurd (stop k.0 a k.1 rest k.2 h)
    by (Err a) (Err b) (inr h) (inl k) = absurd (stop h.0 b h.1 others h.2 k)
    by (Err a) (Err b) (inr h) (inr k) =
        let more = after h.0 k.0 h.1 k.1 (Err a) (Err b) h.2 k.2 h.3 k.3 in
        let why : a ≡ b = let is = more.1 in cc is in
        (ap (λ x. Err x) why, more.2)
