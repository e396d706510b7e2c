-- A tail that is one token of a form.
use Rattle.std.specs.Prelude.{ℕ, ◌≡◌, ◌≢◌, ◌⊎◌, List, [], ◌∷◌}
use Rattle.dns_octets.specs.Room.{Room}
use Rattle.dns_octets.specs.Appending.{ExceedsRoom}
use Rattle.dns_lexer.specs.EntryTokens.{TokenSeen}
use Rattle.rdata_values.specs.declared.error.ErrorKind.{ErrorKind}
use Rattle.rdata_values.specs.declared.error.ErrorKind.TheVariants.{EndOfEntry, TrailingToken}
use Rattle.rdata.specs.Rests.{RestForm}
use Rattle.rdata.specs.TokenForms.{TokenForm}

-- there is one token, and it spells the octets
abbrev pub SpellsOne : TokenForm → List TokenSeen → List ℕ → Type 0
SpellsOne f [] octets = ⊥
SpellsOne f (t ∷ []) octets = f.spells t octets
SpellsOne f (t ∷ u ∷ ts) octets = ⊥

-- octets that a beginning of the first token spells don't surely fit
abbrev pub ExceedsOne : TokenForm → Room → List TokenSeen → List TokenSeen → List ℕ → Type 0
ExceedsOne f room [] left old = ⊥
ExceedsOne f room (t ∷ ts) left old = (left ≡ t ∷ ts) × ExceedsRoom room (f.begins t) old

-- there is no token; or the first is rejected; or it spells octets, and a second follows it
abbrev pub OneReason : TokenForm → List TokenSeen → List TokenSeen → ErrorKind → Type 0
OneReason f [] left e = (left ≡ []) × (e ≡ EndOfEntry)
OneReason f (t ∷ ts) left e = ((left ≡ t ∷ ts) × f.reason t e) ⊎ ((left ≡ ts) × (e ≡ TrailingToken) × (ts ≢ []) × ((octets : List ℕ) × f.spells t octets))

abbrev pub one_form : TokenForm → RestForm
one_form f = record {
  spells = SpellsOne f;
  exceeds = ExceedsOne f;
  reason = OneReason f;
  is_wire = f.is_wire;
  printed = λ octets. f.printed octets ∷ [];
}
