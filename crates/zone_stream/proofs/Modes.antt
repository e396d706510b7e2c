-- The modes of the reader, whose names are private to its crate: each is the mode after a step.
use Rattle.std.specs.Prelude.{⊤, Option, Some, None}
use Rattle.dns_lexer.specs.Reader.{home, kind, move_to, outside_step}

-- a type, found from a function or a value of that type
abbrev result_of : {A B : Type 0} → (A → B) → Type 0
result_of {A} {B} f = B

abbrev third_of : {A B C D : Type 0} → (A → B → C → D) → Type 0
third_of {A} {B} {C} {D} f = C

abbrev item_of : {A : Type 0} → Option A → Type 0
item_of {A} o = A

-- the reader's mode, the move of an octet to another, and what the reader does then
abbrev pub Mode : Type 0
Mode = result_of home

abbrev pub Move : Type 0
Move = item_of (outside_step 0 (kind 32))

abbrev pub Act : Type 0
Act = third_of move_to

abbrev IsMove : Option Move → Type 0
IsMove (Some v) = ⊤
IsMove None = ⊥

abbrev behind : (o : Option Move) → IsMove o → Mode
behind (Some v) h = v.mode
behind None h = elim h [ ]

-- after a space no token is open
abbrev pub Outside : Mode
Outside = behind (outside_step 0 (kind 32)) tt
