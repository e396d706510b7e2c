-- The edits of a record, by what was read of it.
use Rattle.std.proofs.Common.{ℕ, ◌≡◌, ◌≤◌, ◌==◌, Bool, true, false, List, [], ◌∷◌, ◌++◌, length, take, refl, sym, ap, subst, ◌∙◌}
use Rattle.std.specs.Prelude.{if◌then◌else◌}
use Rattle.std.specs.Fmt.{decimal}
use Rattle.std.proofs.lemmas.Bool.{eq-eqb, eqb-true, true≢false}
use Rattle.std.proofs.Math.Seq.{take-append_seam}
use Rattle.dns_codec.specs.Base.{base16, encoded}
use Rattle.dns_lexer.specs.declared.pieces.Span.{Span}
use Rattle.zone_contents.specs.declared.zonemd.Zonemd.{Zonemd}
use Rattle.zone_edit.specs.declared.edit.Edit.{Edit}
use Rattle.zone_edit.specs.declared.tokens.TokenError.{TokenError}
use Rattle.zone_edit.specs.declared.zonemd.ZonemdEdit.{ZonemdEdit}
use Rattle.zone_edit.specs.Changes.{Change, PushesChanges, are_same, change, hex_changes, number_changes}
use Rattle.zone_edit.specs.Marks.{is_generic}
use Rattle.zone_edit.specs.Tokens.{Continues, IsTokenError}
use Rattle.zone_edit.specs.Zonemds.{HasZonemdTokens, IsRdataError, IsRecordError, fewest_tokens, field_changes, generic_changes, is_same_zonemd, zonemd_changes, zonemd_octets}
use Rattle.zone_edit.proofs.Changes.{error_first, error_three, error_two, pushes_both, pushes_none}

not_true : (b : Bool) → (b ≡ true → ⊥) → b ≡ false
not_true true h = absurd (h refl)
not_true false h = refl

-- one of two lists of changes, by a test
chosen_first : {B : Type 0} (octets : List ℕ) (b : Bool) (first second : List Change) (old new : List (Edit B)) → b ≡ true → PushesChanges octets first old new
    → PushesChanges octets (if b then first else second) old new
chosen_first octets b first second old new is p = subst (λ t. PushesChanges octets (if t then first else second) old new) (sym is) p

chosen_second : {B : Type 0} (octets : List ℕ) (b : Bool) (first second : List Change) (old new : List (Edit B)) → b ≡ false → PushesChanges octets second old new
    → PushesChanges octets (if b then first else second) old new
chosen_second octets b first second old new is p = subst (λ t. PushesChanges octets (if t then first else second) old new) (sym is) p

-- nothing changes
module _ {B : Type 0} (octets : List ℕ) (edits : List (Edit B)) where
  pub number_same : (token : Span) (old new : ℕ) → old ≡ new → PushesChanges octets (number_changes token old new) edits edits
  number_same token old new is = chosen_first octets (old == new) [] (change (token ∷ []) (decimal new) ∷ []) edits edits (eq-eqb old new is) (pushes_none octets edits)

  pub hex_same : (tokens : List Span) (old new : List ℕ) (b : Bool) → b ≡ are_same old new → b ≡ true → PushesChanges octets (hex_changes tokens old new) edits edits
  hex_same tokens old new b is t =
      chosen_first octets (are_same old new) [] (change tokens (encoded base16 new) ∷ []) edits edits (sym is ∙ t) (pushes_none octets edits)

  pub record_same : (z : ZonemdEdit) (b : Bool) → b ≡ is_same_zonemd z.before z.after → b ≡ true → PushesChanges octets (zonemd_changes octets z) edits edits
  record_same z b is t =
      chosen_first octets (is_same_zonemd z.before z.after) []
      (if is_generic octets z.tokens.now then generic_changes z.tokens.now z.after else field_changes z.tokens.now z.before z.after) edits edits (sym is ∙ t) (pushes_none octets edits)

module _ {B : Type 0} (octets : List ℕ) (edits new_edits : List (Edit B)) where
  -- a number changes
  pub number_other : (token : Span) (old new : ℕ) → (old ≡ new → ⊥) → PushesChanges octets (change (token ∷ []) (decimal new) ∷ []) edits new_edits
      → PushesChanges octets (number_changes token old new) edits new_edits
  number_other token old new other p =
      chosen_second octets (old == new) [] (change (token ∷ []) (decimal new) ∷ []) edits new_edits (not_true (old == new) (λ e. other (eqb-true old new e))) p

  -- hexadecimal digits change, by what a comparison returned
  pub hex_other : (tokens : List Span) (old new : List ℕ) (b : Bool) → b ≡ are_same old new → b ≡ false → PushesChanges octets (change tokens (encoded base16 new) ∷ []) edits new_edits
      → PushesChanges octets (hex_changes tokens old new) edits new_edits
  hex_other tokens old new b is f p = chosen_second octets (are_same old new) [] (change tokens (encoded base16 new) ∷ []) edits new_edits (sym is ∙ f) p

  -- the generic form
  pub generic_pushed : (tokens digits : List Span) (mark count : Span) (new : Zonemd) (made : List ℕ) → tokens ≡ mark ∷ count ∷ digits → made ≡ zonemd_octets new
      → PushesChanges octets (change digits (encoded base16 made) ∷ []) edits new_edits → PushesChanges octets (generic_changes tokens new) edits new_edits
  generic_pushed tokens digits mark count new made is same p =
      subst (λ ts. PushesChanges octets (generic_changes ts new) edits new_edits) (sym is)
      (subst (λ d. PushesChanges octets (change digits (encoded base16 d) ∷ []) edits new_edits) same p)

  -- the fields
  pub fields_pushed : (middle : List (Edit B)) (tokens digest : List Span) (serial scheme hash : Span) (old new : Zonemd) → tokens ≡ serial ∷ scheme ∷ hash ∷ digest
      → PushesChanges octets (number_changes serial old.serial new.serial) edits middle → PushesChanges octets (hex_changes digest old.digest.now new.digest.now) middle new_edits
      → PushesChanges octets (field_changes tokens old new) edits new_edits
  fields_pushed middle tokens digest serial scheme hash old new is p q =
      subst (λ ts. PushesChanges octets (field_changes ts old new) edits new_edits) (sym is)
      (pushes_both octets (number_changes serial old.serial new.serial) (hex_changes digest old.digest.now new.digest.now) edits middle new_edits p q)

  -- a record, by what two tests returned

  record_other : (z : ZonemdEdit) (b : Bool) → b ≡ is_same_zonemd z.before z.after → b ≡ false
      → PushesChanges octets (if is_generic octets z.tokens.now then generic_changes z.tokens.now z.after else field_changes z.tokens.now z.before z.after) edits new_edits
      → PushesChanges octets (zonemd_changes octets z) edits new_edits
  record_other z b is f p =
      chosen_second octets (is_same_zonemd z.before z.after) []
      (if is_generic octets z.tokens.now then generic_changes z.tokens.now z.after else field_changes z.tokens.now z.before z.after) edits new_edits (sym is ∙ f) p

  pub record_generic : (z : ZonemdEdit) (b g : Bool) → b ≡ is_same_zonemd z.before z.after → b ≡ false → g ≡ is_generic octets z.tokens.now → g ≡ true
      → PushesChanges octets (generic_changes z.tokens.now z.after) edits new_edits → PushesChanges octets (zonemd_changes octets z) edits new_edits
  record_generic z b g is f mark t p =
      record_other z b is f
      (chosen_first octets (is_generic octets z.tokens.now) (generic_changes z.tokens.now z.after) (field_changes z.tokens.now z.before z.after) edits new_edits (sym mark ∙ t) p)

  pub record_fields : (z : ZonemdEdit) (b g : Bool) → b ≡ is_same_zonemd z.before z.after → b ≡ false → g ≡ is_generic octets z.tokens.now → g ≡ false
      → PushesChanges octets (field_changes z.tokens.now z.before z.after) edits new_edits → PushesChanges octets (zonemd_changes octets z) edits new_edits
  record_fields z b g is f mark u p =
      record_other z b is f
      (chosen_second octets (is_generic octets z.tokens.now) (generic_changes z.tokens.now z.after) (field_changes z.tokens.now z.before z.after) edits new_edits (sym mark ∙ u) p)

-- errors of tokens that RDATA has
pub generic_error : (fewest : ℕ) (octets : List ℕ) (tokens digits : List Span) (mark count : Span) (e : TokenError) → tokens ≡ mark ∷ count ∷ digits
    → IsTokenError (length octets) 0 digits e → IsRdataError fewest octets tokens e
generic_error fewest octets tokens digits mark count e is h = subst (λ ts. IsRdataError fewest octets ts e) (sym is) (error_two fewest octets mark count digits e h)

pub serial_error : (fewest : ℕ) (octets : List ℕ) (tokens rest : List Span) (serial : Span) (e : TokenError) → tokens ≡ serial ∷ rest
    → IsTokenError (length octets) 0 (serial ∷ []) e → IsRdataError fewest octets tokens e
serial_error fewest octets tokens rest serial e is h = subst (λ ts. IsRdataError fewest octets ts e) (sym is) (error_first fewest octets serial rest e h)

pub digest_error : (fewest : ℕ) (octets : List ℕ) (tokens digest : List Span) (serial scheme hash : Span) (e : TokenError) → tokens ≡ serial ∷ scheme ∷ hash ∷ digest
    → IsTokenError (length octets) 0 digest e → IsRdataError fewest octets tokens e
digest_error fewest octets tokens digest serial scheme hash e is h =
    subst (λ ts. IsRdataError fewest octets ts e) (sym is) (error_three fewest octets serial scheme hash digest e h)

-- a record that doesn't change
pub enough_same : (octets : List ℕ) (z : ZonemdEdit) (b : Bool) → b ≡ is_same_zonemd z.before z.after → b ≡ true → HasZonemdTokens octets z
enough_same octets z b is t = λ f. absurd (true≢false (sym t ∙ is ∙ f))

-- the tokens and the errors of one that changes, by its form
module _ (octets : List ℕ) (z : ZonemdEdit) (b g : Bool) (is : b ≡ is_same_zonemd z.before z.after) (f : b ≡ false) (mark : g ≡ is_generic octets z.tokens.now) where
  fewest_is : (h : Bool) → g ≡ h → (if h then 3 else 4) ≡ fewest_tokens octets z.tokens.now
  fewest_is h t = ap (λ a. if a then 3 else 4) (sym t ∙ mark)

  error_of : (h : Bool) (e : TokenError) → g ≡ h → IsRdataError (if h then 3 else 4) octets z.tokens.now e → IsRecordError octets z e
  error_of h e t p = (sym is ∙ f, subst (λ k. IsRdataError k octets z.tokens.now e) (fewest_is h t) p)

  pub error_generic : (e : TokenError) → g ≡ true → IsRdataError 3 octets z.tokens.now e → IsRecordError octets z e
  error_generic e t p = error_of true e t p

  pub error_fields : (e : TokenError) → g ≡ false → IsRdataError 4 octets z.tokens.now e → IsRecordError octets z e
  error_fields e t p = error_of false e t p

  pub enough_generic : g ≡ true → 3 ≤ length z.tokens.now → HasZonemdTokens octets z
  enough_generic t le = λ _. subst (λ k. k ≤ length z.tokens.now) (fewest_is true t) le

  pub enough_fields : g ≡ false → 4 ≤ length z.tokens.now → HasZonemdTokens octets z
  enough_fields t le = λ _. subst (λ k. k ≤ length z.tokens.now) (fewest_is false t) le

-- edits that were pushed are dropped
pub dropped : {B : Type 0} (old new : List (Edit B)) (n : ℕ) → Continues old new → n ≡ length old → take n new ≡ old
dropped old new n c is = ap (take n) c.1 ∙ ap (λ k. take k (old ++ c.0)) is ∙ take-append_seam old c.0
