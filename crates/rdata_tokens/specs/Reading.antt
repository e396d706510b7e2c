-- Digits that arrive in pieces: the state between two pieces, and how a piece changes it.
use Rattle.std.specs.Prelude.{ℕ, ◌≡◌, ◌≢◌, ◌<◌, ◌%◌, ◌⊎◌, Bool, true, false, List, [], ◌++◌, length, ◌+◌, Result, MatchResult, take}
use Rattle.dns_octets.specs.Room.{Room}
use Rattle.dns_octets.specs.Appending.{ExceedsRoom}
use Rattle.dns_codec.specs.Base.{Base, base16}
use Rattle.rdata_tokens.specs.Spelled.{SpellsDigits, opens_group, base_of, illegal, unfinished}
use Rattle.rdata_tokens.specs.declared.kind.DigitsKind.{DigitsKind}
use Rattle.rdata_tokens.specs.declared.kind.DigitsKind.TheVariants.{Hex}
use Rattle.rdata_values.specs.declared.error.ErrorKind.{ErrorKind}
use Rattle.rdata_values.specs.declared.error.ErrorKind.TheVariants.{TrailingBase64, ShortBuf}

pub record DigitsState : Type 0 where
  pub kind : DigitsKind
  -- the digits of a group that is not whole yet
  pub begun : List ℕ
  -- a padded group was read, and nothing may follow it
  pub ended : Bool

-- these are read of a text in pieces: whole groups, which spell these octets, and the first digits
-- of one more group, which some text continues
pub record HasRead (s : DigitsState) (text octets : List ℕ) : Type 0 where
  pub groups : List ℕ
  pub split : text ≡ groups ++ s.begun
  pub spelled : SpellsDigits (base_of s.kind) groups octets
  pub whole : length groups % (base_of s.kind).group ≡ 0
  pub few : length s.begun < (base_of s.kind).group
  pub ended : s.ended ≡ opens_group (base_of s.kind) octets
  pub last : s.ended ≡ true → s.begun ≡ []
  pub goes_on : (rest : List ℕ) × (more : List ℕ) × SpellsDigits (base_of s.kind) (s.begun ++ rest) more

-- a piece was read after the digits of the group begun, and these octets were gained. After a padded group only an empty piece is
pub record AcceptsPiece (old : DigitsState) (piece gained : List ℕ) (new : DigitsState) : Type 0 where
  pub kept : new.kind ≡ old.kind
  pub none : piece ≡ [] → (gained ≡ []) × (new ≡ old)
  pub read : piece ≢ [] → (old.ended ≡ false) × HasRead new (old.begun ++ piece) gained

-- the octets that a piece, and what may follow it, can still gain
abbrev pub MayGain : DigitsState → List ℕ → List ℕ → Type 0
MayGain s piece gained = (s.ended ≡ false) × ((rest : List ℕ) × SpellsDigits (base_of s.kind) (s.begun ++ piece ++ rest) gained)

-- the octets that the digits begun and a beginning of a piece spell, of which there are some
abbrev pub BeginsToGain : DigitsState → List ℕ → List ℕ → Type 0
BeginsToGain s piece gained = (s.ended ≡ false) × (front : List ℕ) × (rest : List ℕ) × (piece ≡ front ++ rest) × SpellsDigits (base_of s.kind) (s.begun ++ front) gained × (0 < length gained)

-- something follows a padded group of a text
abbrev pub PaddedBefore : Base → List ℕ → Type 0
PaddedBefore b text = (front rest octets : List ℕ) × (text ≡ front ++ rest) × (rest ≢ []) × SpellsDigits b front octets × (opens_group b octets ≡ true)

-- a padded group was read before, or ends within the digits begun and a piece, and something follows it
abbrev pub FollowsPadding : DigitsState → List ℕ → Type 0
FollowsPadding s piece = ((s.ended ≡ true) × (piece ≢ []))
    ⊎ ((s.ended ≡ false) × PaddedBefore (base_of s.kind) (s.begun ++ piece))

-- a piece that is not empty is rejected: the octets of a beginning of it don't surely fit after those that the
-- target had, or no continuation of it has octets
pub record RefusesPiece (room : Room) (s : DigitsState) (piece old : List ℕ) (error : ErrorKind) : Type 0 where
  pub some : piece ≢ []
  pub why : (error ≡ ShortBuf) ⊎ (((error ≡ illegal s.kind) × (FollowsPadding s piece → ⊥)) ⊎ ((error ≡ TrailingBase64) × FollowsPadding s piece))
  pub exceeds : error ≡ ShortBuf → ExceedsRoom room (BeginsToGain s piece) old
  pub none : error ≢ ShortBuf → (gained : List ℕ) → MayGain s piece gained → ⊥

-- a piece was read, and the octets that were gained are appended
abbrev pub AppendsPiece : DigitsState → List ℕ → DigitsState → List ℕ → List ℕ → Type 0
AppendsPiece s piece t old new = (gained : List ℕ) × AcceptsPiece s piece gained t × (new ≡ old ++ gained)

-- the first `n` digits are whole groups and not all digits, and the octets that they spell are appended
abbrev pub AppendsBlocks : DigitsKind → List ℕ → List ℕ → List ℕ → ℕ → Type 0
AppendsBlocks kind digits old new n = (n < length digits) × (length (take n digits) % (base_of kind).group ≡ 0)
    × ((gained : List ℕ) × SpellsDigits (base_of kind) (take n digits) gained × (opens_group (base_of kind) gained ≡ false) × (new ≡ old ++ gained))

-- the octets of such groups, of which there are some, don't surely fit
abbrev pub LacksBlocks : DigitsKind → List ℕ → Room → List ℕ → Type 0
LacksBlocks kind digits room old = (n : ℕ) × (n < length digits) × (length (take n digits) % (base_of kind).group ≡ 0)
    × ((gained : List ℕ) × SpellsDigits (base_of kind) (take n digits) gained × (opens_group (base_of kind) gained ≡ false) × (0 < length gained) × (room.fits < length old + length gained))

-- no group is begun, and a piece that is not empty is hexadecimal digits, which spell these octets
pub record AreWholePairs (s : DigitsState) (piece octets : List ℕ) : Type 0 where
  pub kind : s.kind ≡ Hex
  pub goes : s.ended ≡ false
  pub none : s.begun ≡ []
  pub some : piece ≢ []
  pub spelled : SpellsDigits base16 piece octets

-- a text ends if no group is begun, and fails otherwise
abbrev pub EndsPieces : DigitsState → Result (Unit {0}) ErrorKind → Type 0
EndsPieces s r = MatchResult r (λ _. s.begun ≡ []) (λ e. (s.begun ≢ []) × (e ≡ unfinished s.kind))
