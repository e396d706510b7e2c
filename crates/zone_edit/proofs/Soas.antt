-- SOAs, one after another.
use Rattle.std.proofs.Common.{◌≡◌, ◌<◌, ℕ, ◌+◌, Some, None, List, ◌∷◌, length, drop, get_or, sym, ap, ◌∙◌}
use Rattle.std.specs.Fmt.{decimal}
use Rattle.zone_edit.specs.declared.serial.SoaEdit.{SoaEdit}
use Rattle.zone_edit.specs.declared.serial.SoaError.{SoaError}
use Rattle.zone_edit.specs.declared.serial.SoaError.TheVariants.{Differing, Generated, GenericForm, Included, NoSoa, NotDecimal, OutOfMemory}
use Rattle.zone_edit.specs.Serials.{IsSerialError, IsSoaError, edit_error, error_or, serial_spans, serial_texts, soa_error}
use Rattle.zone_edit.proofs.Opening.{rest_of}

-- the SOA of an index, and those after it
module _ (soas : List SoaEdit) (i : ℕ) (s d : SoaEdit) (lt : i < length soas) (is : s ≡ get_or soas i d) where
  next : drop i soas ≡ s ∷ drop (i + 1) soas
  next = rest_of soas i s d lt is

  pub next_spans : serial_spans (drop i soas) ≡ s.serial.span ∷ serial_spans (drop (i + 1) soas)
  next_spans = ap serial_spans next

  pub next_texts : (serial : ℕ) → serial_texts serial (drop i soas) ≡ decimal serial ∷ serial_texts serial (drop (i + 1) soas)
  next_texts serial = ap (serial_texts serial) next

  -- it can be edited
  pub error_next : (k : ℕ) → soa_error k s ≡ None → edit_error k (drop i soas) ≡ edit_error 0 soas → edit_error (k + 1) (drop (i + 1) soas) ≡ edit_error 0 soas
  error_next k none before = sym (ap (edit_error k) next ∙ ap (λ e. error_or e (edit_error (k + 1) (drop (i + 1) soas))) none) ∙ before

  found : (k : ℕ) (e : SoaError) → soa_error k s ≡ Some e → edit_error k (drop i soas) ≡ edit_error 0 soas → edit_error 0 soas ≡ Some e
  found k e has before = sym before ∙ ap (edit_error k) next ∙ ap (λ x. error_or x (edit_error (k + 1) (drop (i + 1) soas))) has

  -- it can't be edited
  pub error_here : (k : ℕ) (e : SoaError) → IsSoaError k s e → edit_error k (drop i soas) ≡ edit_error 0 soas → IsSerialError soas e
  error_here k OutOfMemory h before = tt
  error_here k NoSoa h before = found k NoSoa h before
  error_here k (Differing j) h before = found k (Differing j) h before
  error_here k (Included j) h before = found k (Included j) h before
  error_here k (NotDecimal j) h before = found k (NotDecimal j) h before
  error_here k (GenericForm j) h before = found k (GenericForm j) h before
  error_here k (Generated j) h before = found k (Generated j) h before
