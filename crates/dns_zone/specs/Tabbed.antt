-- The tabbed writer.
use Rattle.std.specs.Prelude.{◌≡◌, ℕ, ◌<◌, List}
use Rattle.dns_zone.specs.Layout.{Step, depth, is_line_start, is_block_start, tabbed_piece}
use Rattle.dns_zone.specs.Writers.{PrintsStep, FailsStep, BlocksPass, WritesStep}
use Rattle.dns_zone.specs.declared.zonefile_fmt.tabbed.TabbedWriter.{TabbedWriter}

-- the sink of a writer
abbrev pub tabbed_sink : {W : Type 0} → TabbedWriter W → W
tabbed_sink w = w.writer

-- the number of its open blocks
abbrev pub tabbed_blocks : {W : Type 0} → TabbedWriter W → ℕ
tabbed_blocks w = w.blocks.count

-- the writer's fields follow from the steps before, the last one first
pub record TabbedFollows {W : Type 0} (w : TabbedWriter W) (past : List Step) : Type 0 where
  pub first : w.first ≡ is_line_start past
  pub blocks : w.blocks.count ≡ depth past
  pub first_block : 0 < depth past → w.first_block ≡ is_block_start past

-- a step that succeeded: after whatever steps the writer is, the text of this one is appended
abbrev pub TabbedStep : {W : Type 0} → (W → List ℕ → W → Type 0) → TabbedWriter W → Step → TabbedWriter W → Type 0
TabbedStep took = PrintsStep TabbedFollows tabbed_sink took tabbed_piece

-- the same, and the blocks that are open after it
abbrev pub TabbedWrites : {W : Type 0} → (W → List ℕ → W → Type 0) → TabbedWriter W → Step → TabbedWriter W → Type 0
TabbedWrites took = WritesStep tabbed_blocks (TabbedStep took)

-- a step that failed: the sink failed, or the open blocks would exceed the greatest
abbrev pub TabbedFails : {W : Type 0} → Type 0 → ℕ → TabbedWriter W → Step → Type 0
TabbedFails refused most = FailsStep TabbedFollows refused (BlocksPass most)
