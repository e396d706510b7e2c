-- The text of a document in the layout of each kind.
use Rattle.std.specs.Prelude.{ℕ, List, Result, OnOk}
use Rattle.std.specs.Fmt.{WritesInCalls}
use Rattle.dns_zone.specs.Layout.{Step, layout, simple_piece, tabbed_piece, multiline_piece}
use Rattle.dns_zone.specs.declared.zonefile_fmt.DisplayKind.{DisplayKind}
use Rattle.dns_zone.specs.declared.zonefile_fmt.DisplayKind.TheVariants.{Simple, Tabbed, Multiline}

-- the text of a step in a layout, after the steps before it
abbrev pub piece_of : DisplayKind → List Step → Step → List ℕ
piece_of Simple = simple_piece
piece_of Tabbed = tabbed_piece
piece_of Multiline = multiline_piece

-- the text of a document in a layout
abbrev pub printed : DisplayKind → List Step → List ℕ
printed kind xs = layout (piece_of kind) xs

-- the text of a document in a layout, by calls of the sink, if the result is `Ok`
abbrev pub PrintsOnOk : {W E : Type 0} → DisplayKind → (W → List ℕ → W → Type 0) → W → Result (Unit {0}) E → List Step → W → Type 0
PrintsOnOk kind took w r xs v = OnOk r (WritesInCalls took w (printed kind xs) v)
