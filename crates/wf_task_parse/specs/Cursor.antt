-- The tokens that a cursor has still to come.
use Rattle.std.specs.Prelude.{ℕ, List}
use Rattle.json.specs.Token.{Token}
use Rattle.json.specs.Lex.{fresh, after_value, after_comma, between, lex, punctuate}
use Rattle.json.specs.Lex as lexer
use Rattle.wf_task_parse.specs.declared.cursor.LexerState.{LexerState}
use Rattle.wf_task_parse.specs.declared.cursor.LexerState.TheVariants.{Fresh, AfterValue, AfterComma}

-- a place of the cursor, as the reader of JSON has it
abbrev pub place_of : LexerState → lexer.Place
place_of Fresh = fresh
place_of AfterValue = after_value
place_of AfterComma = after_comma

-- the tokens of the text from there on, up to the first fault
abbrev pub tokens_at : LexerState → List ℕ → List Token
tokens_at place text = punctuate (place_of place) (lex between text)
