-- The simple writer.
use Rattle.std.specs.Prelude.{◌≡◌, ℕ, List}
use Rattle.dns_zone.specs.Layout.{Step, depth, is_line_start, simple_piece}
use Rattle.dns_zone.specs.Writers.{PrintsStep, FailsStep, BlocksPass, WritesStep}
use Rattle.dns_zone.specs.declared.zonefile_fmt.simple.SimpleWriter.{SimpleWriter}

-- the sink of a writer
abbrev pub simple_sink : {W : Type 0} → SimpleWriter W → W
simple_sink w = w.writer

-- the number of its open blocks
abbrev pub simple_blocks : {W : Type 0} → SimpleWriter W → ℕ
simple_blocks w = w.blocks.count

-- the writer's fields follow from the steps before, the last one first
pub record SimpleFollows {W : Type 0} (w : SimpleWriter W) (past : List Step) : Type 0 where
  pub first : w.first ≡ is_line_start past
  pub blocks : w.blocks.count ≡ depth past

-- a step that succeeded: after whatever steps the writer is, the text of this one is appended
abbrev pub SimpleStep : {W : Type 0} → (W → List ℕ → W → Type 0) → SimpleWriter W → Step → SimpleWriter W → Type 0
SimpleStep took = PrintsStep SimpleFollows simple_sink took simple_piece

-- the same, and the blocks that are open after it
abbrev pub SimpleWrites : {W : Type 0} → (W → List ℕ → W → Type 0) → SimpleWriter W → Step → SimpleWriter W → Type 0
SimpleWrites took = WritesStep simple_blocks (SimpleStep took)

-- a step that failed: the sink failed, or the open blocks would exceed the greatest
abbrev pub SimpleFails : {W : Type 0} → Type 0 → ℕ → SimpleWriter W → Step → Type 0
SimpleFails refused most = FailsStep SimpleFollows refused (BlocksPass most)
