-- Worked examples: the spans and the end of the first entry of octets, each computed.
use Rattle.std.specs.Prelude.{◌≡◌, ◌∷◌, [], true, false, codes, None, Ok, refl}
use Rattle.std.proofs.Common.{arith, inl}
use lib.Utf8.{encode}
use Rattle.dns_symbol.specs.declared.symbol.Symbol.TheVariants.{Char}
use Rattle.dns_lexer.specs.Lexeme.{Blank, Close, Line, Note, Open, Quote, Word}
use Rattle.dns_lexer.specs.Pieces.{comment_at, end_at, quote_at, word_at}
use Rattle.zone_reader.specs.TapeSource.{tape_seen}
use Rattle.zone_reader.specs.Tape.{FillsLine, FillsWith}
use Rattle.zone_reader.specs.declared.tape.TokenSpan.{TokenSpan}

-- no octets are one entry without tokens
nothing : FillsWith [] [] 0
nothing = record {
  stop = record { at = 0; begins_blank = false };
  left = [];
  first = record { found = []; is_open = tt; given = (inl (record { found = end_at 0 false ∷ []; is = refl; placed = record { lexemes = []; spelled = refl; valid = refl; nested = refl; placed = refl } }), (omega arith, tt)) };
  ends = refl;
  tokens = refl;
  within = tt;
}

-- a key and its quoted value, adjacent, in parentheses; a comment, and a line end within these
key : TokenSpan
key = record { offset = 1; start = 1; end = 3; is_quoted = false; is_adjacent = false }

value : TokenSpan
value = record { offset = 3; start = 4; end = 5; is_quoted = true; is_adjacent = true }

key_and_value : FillsWith (codes "(k=\"v\" ;c\n)\nx") (key ∷ value ∷ []) 12
unfolding encode key value
key_and_value = record {
  stop = record { at = 12; begins_blank = false };
  left = Ok (word_at 12 13) ∷ Ok (end_at 13 false) ∷ [];
  first = record {
    found = word_at 1 3 ∷ quote_at 3 6 ∷ comment_at 7 9 ∷ [];
    is_open = tt;
    given = (
      inl (record {
        found = word_at 1 3 ∷ quote_at 3 6 ∷ comment_at 7 9 ∷ end_at 12 false ∷ word_at 12 13 ∷ end_at 13 false ∷ [];
        is = refl;
        placed = record {
          lexemes = Open ∷ Word (Char 107) (Char 61 ∷ []) ∷ Quote (Char 118 ∷ []) ∷ Blank false ∷ Note (99 ∷ []) ∷ Line false ∷ Close ∷ Line false ∷ Word (Char 120) [] ∷ [];
          spelled = refl;
          valid = refl;
          nested = refl;
          placed = refl;
        };
      }),
      ((omega arith, omega arith), ((omega arith, omega arith), ((omega arith, omega arith), (omega arith, ((omega arith, omega arith), (omega arith, tt)))))),
    );
  };
  ends = refl;
  tokens = refl;
  within = ((omega arith, omega arith, omega arith), ((omega arith, omega arith, omega arith), tt));
}

-- more octets follow the entry
key_and_value_line : FillsLine (codes "(k=\"v\" ;c\n)\nx") (key ∷ value ∷ []) 12
unfolding key_and_value
key_and_value_line = (key_and_value, omega arith)

-- its tokens, if the octets begin at the offset 100
from_hundred : tape_seen (codes "(k=\"v\" ;c\n)\nx") 100 (key ∷ value ∷ []) 12
    ≡ record {
      tokens = record { text = codes "k="; is_quoted = false; is_adjacent = false; at = 101 } ∷ record { text = codes "v"; is_quoted = true; is_adjacent = true; at = 103 } ∷ [];
      end = record { at = 112; behind = None };
    }
unfolding key value
from_hundred = refl
