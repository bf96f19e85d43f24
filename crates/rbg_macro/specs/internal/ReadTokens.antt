-- Tokens as expansion reads them.
use Rattle.std.specs.Prelude.{ℕ, List}
use Rattle.rbg_macro.specs.declared.read_token.Bytes.{Bytes}
use Rattle.rbg_macro.specs.declared.read_token.Bytes.TheVariants.{OfText, Joined}
use Rattle.rbg_macro.specs.declared.read_token.ReadToken.{ReadToken}
use Rattle.rbg_macro.specs.Token.{Lexeme}

-- the bytes, apart from where they are in memory
abbrev pub bytes_in : Bytes → List ℕ
bytes_in (OfText text) = text.now
bytes_in (Joined text) = text.now

-- a token without its mark and without where its bytes are in memory
abbrev pub read_lexeme : ReadToken → Lexeme
read_lexeme t = record { kind = t.kind; text = bytes_in t.bytes; at = t.at }
