-- A text that is edited as one chunk.
use Rattle.std.proofs.Common.{ℕ, ◌≡◌, ◌<◌, ◌^◌, List, [], ◌++◌, length, take, ap, subst, ◌∙◌, append-nil, arith}
use Rattle.std.proofs.Math.Seq.{take-append_seam}
use Rattle.dns_octets.specs.Appending.{Extends}
use Rattle.zone_edit.specs.declared.edit.Edit.{Edit}
use Rattle.zone_edit.specs.declared.edit.EditError.{EditError}
use Rattle.zone_edit.specs.declared.edit.EditError.TheVariants.{OutOfMemory, OutOfOrder, PastEnd, TooLong}
use Rattle.zone_edit.specs.declared.editor.EditProgress.{EditProgress}
use Rattle.zone_edit.specs.Edits.{AreApart, EndWithin, IsEditError, IsFirstPastEnd, IsOrderError, edited}
use Rattle.zone_edit.specs.Chunks.{AppliesChunk, Editing, IsAddError, IsFinishError, rest_edited}

abbrev pub nowhere : EditProgress
nowhere = record { done = 0; at = 0; from = 0 }

pub whole_made : {B : Type 0} (edits : List (Edit B)) (first last : EditProgress) (octets front middle to : List ℕ) → first ≡ nowhere
    → AppliesChunk edits first octets front middle last → to ≡ middle ++ rest_edited edits last [] → to ≡ front ++ edited edits octets
whole_made edits first last octets front middle to begins p made =
    made ∙ p.made [] ∙ ap (λ l. front ++ rest_edited edits first l) (append-nil octets) ∙ ap (λ r. front ++ rest_edited edits r octets) begins

pub whole_within : {B : Type 0} (edits : List (Edit B)) (first last : EditProgress) (octets front middle : List ℕ) → first ≡ nowhere
    → AppliesChunk edits first octets front middle last → EndWithin last.at edits → EndWithin (length octets) edits
whole_within edits first last octets front middle begins p h =
    let whole : last.at ≡ length octets = omega (arith, p.next, ap (λ r. r.at) begins) in
    subst (λ n. EndWithin n edits) whole h

-- why a text can't be edited as one chunk
pub order_fails : {B : Type 0} (count : ℕ) (edits : List (Edit B)) (e : EditError) → IsOrderError edits e → IsEditError count edits e
order_fails count edits (OutOfOrder i) h = h
order_fails count edits (PastEnd i) h = absurd h
order_fails count edits TooLong h = h
order_fails count edits OutOfMemory h = tt

pub add_fails : {B : Type 0} (count : ℕ) (edits : List (Edit B)) (first : EditProgress) (e : EditError) → first ≡ nowhere → count < 2 ^ 64 → IsAddError first.at count e → IsEditError count edits e
add_fails count edits first (OutOfOrder i) is lt h = absurd h
add_fails count edits first (PastEnd i) is lt h = absurd h
add_fails count edits first TooLong is lt h = omega (arith, lt, h, ap (λ r. r.at) is)
add_fails count edits first OutOfMemory is lt h = tt

pub finish_fails : {B : Type 0} (s : Editing B) (octets front middle : List ℕ) (edits : List (Edit B)) (first : EditProgress) (e : EditError) → first ≡ nowhere → s.edits ≡ edits
    → AppliesChunk edits first octets front middle s.reached → AreApart 0 edits → IsFinishError s e → IsEditError (length octets) edits e
finish_fails s octets front middle edits first (OutOfOrder i) is same p apart h = absurd h
finish_fails s octets front middle edits first (PastEnd i) is same p apart h =
    let whole : s.reached.at ≡ length octets = omega (arith, p.next, ap (λ r. r.at) is) in
    (apart, subst (λ n. IsFirstPastEnd n edits i) whole (subst (λ es. IsFirstPastEnd s.reached.at es i) same h))
finish_fails s octets front middle edits first TooLong is same p apart h = h
finish_fails s octets front middle edits first OutOfMemory is same p apart h = tt

-- what was appended is dropped
pub cut_back : (front to : List ℕ) (n : ℕ) → Extends front to → n ≡ length front → take n to ≡ front
cut_back front to n e is = ap (take n) e.1 ∙ ap (λ k. take k (front ++ e.0)) is ∙ take-append_seam front e.0
