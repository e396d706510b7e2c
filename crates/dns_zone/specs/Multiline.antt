-- The multiline writer.
use Rattle.std.specs.Prelude.{◌≡◌, ◌≤◌, ◌<◌, ◌⊎◌, ℕ, ◌+◌, false, List, ◌∷◌, length, Some, None, Result, IsOk, if◌then◌else◌}
use Rattle.dns_zone.specs.Layout.{Step, token, begin, end, comment, newline, depth, is_row_start, is_shown, line_width, indent, multiline_piece}
use Rattle.dns_zone.specs.Writers.{PrintsStep, FailsStep, WritesStep}
use Rattle.dns_zone.specs.declared.zonefile_fmt.multiline.MultiLineWriter.{MultiLineWriter}

-- the sink of a writer
abbrev pub multiline_sink : {W : Type 0} → MultiLineWriter W → W
multiline_sink w = w.line.writer

-- the number of its open blocks
abbrev pub multiline_blocks : {W : Type 0} → MultiLineWriter W → ℕ
multiline_blocks w = w.blocks.count

-- the writer's fields follow from the steps before, the last one first
pub record MultilineFollows {W : Type 0} (w : MultiLineWriter W) (past : List Step) : Type 0 where
  pub first : w.first ≡ is_row_start past
  pub blocks : w.blocks.count ≡ depth past
  pub block_indent : w.block_indent ≡ (if is_shown past then Some (indent past) else None)
  pub column : w.line.column ≡ Some (line_width past)

-- a step that succeeded: after whatever steps the writer is, the text of this one is appended
abbrev pub MultilineStep : {W : Type 0} → (W → List ℕ → W → Type 0) → MultiLineWriter W → Step → MultiLineWriter W → Type 0
MultilineStep took = PrintsStep MultilineFollows multiline_sink took multiline_piece

-- the same, and the blocks that are open after it
abbrev pub MultilineWrites : {W : Type 0} → (W → List ℕ → W → Type 0) → MultiLineWriter W → Step → MultiLineWriter W → Type 0
MultilineWrites took = WritesStep multiline_blocks (MultilineStep took)

-- After whatever steps the writer is, the indent of a block that begins here is at most `most`.
abbrev pub IndentFits : {W : Type 0} → ℕ → MultiLineWriter W → Type 0
IndentFits most w = (past : List Step) → MultilineFollows w past → indent (begin ∷ past) ≤ most

-- after the steps of `past`, a step makes a count exceed `most`: the open blocks, the bytes on the line, or the indent of a block
abbrev pub MultilinePasses : ℕ → List Step → Step → Type 0
MultilinePasses most past begin = (most < depth (begin ∷ past)) ⊎ (most < indent (begin ∷ past))
MultilinePasses most past (token bs) = most < line_width (token bs ∷ past)
MultilinePasses most past end = most < line_width (end ∷ past)
MultilinePasses most past (comment bs) = ⊥
MultilinePasses most past newline = ⊥

-- a step that failed: the sink failed, or a count would exceed the greatest
abbrev pub MultilineFails : {W : Type 0} → Type 0 → ℕ → MultiLineWriter W → Step → Type 0
MultilineFails refused most = FailsStep MultilineFollows refused (MultilinePasses most)

-- with this number of further bytes, the count of the line exceeds `most`
abbrev pub LinePasses : {W : Type 0} → ℕ → MultiLineWriter W → ℕ → Type 0
LinePasses most w more = (n : ℕ) → w.line.column ≡ Some n → most < n + more

-- bytes that are written to a writer directly: they are counted, and aren't a step
pub record WritesLine {W : Type 0} (took : W → List ℕ → W → Type 0) (w : MultiLineWriter W) (bs : List ℕ) (v : MultiLineWriter W) : Type 0 where
  pub first : v.first ≡ w.first
  pub blocks : v.blocks ≡ w.blocks
  pub block_indent : v.block_indent ≡ w.block_indent
  pub column : (n : ℕ) → w.line.column ≡ Some n → v.line.column ≡ Some (n + length bs)
  pub wrote : took w.line.writer bs v.line.writer

-- if the writer shows no comment, one is accepted
abbrev pub AcceptsHidden : {W E : Type 0} → MultiLineWriter W → Result (Unit {0}) E → Type 0
AcceptsHidden w r = (past : List Step) → MultilineFollows w past → is_shown past ≡ false → IsOk r
