-- The classes of tokens: each reserved word, each symbol, names, numbers, texts and comparisons.
use Rattle.std.specs.Prelude.{ℕ}
use Rattle.sql_parse.specs.declared.class.Class.{Class}
use Rattle.sql_parse.specs.declared.class.Class.TheVariants as c
use Rattle.sql_parse.specs.declared.token.Keyword.{Keyword}
use Rattle.sql_parse.specs.declared.token.Keyword.TheVariants as k
use Rattle.sql_parse.specs.declared.token.Symbol.{Symbol}
use Rattle.sql_parse.specs.declared.token.Symbol.TheVariants as s
use Rattle.sql_parse.specs.declared.token.TokenKind.{TokenKind}
use Rattle.sql_parse.specs.declared.token.TokenKind.TheVariants as token

abbrev pub keyword_number : Keyword → ℕ
keyword_number k.And = 0
keyword_number k.As = 1
keyword_number k.Asc = 2
keyword_number k.Count = 3
keyword_number k.Cross = 4
keyword_number k.Desc = 5
keyword_number k.Distinct = 6
keyword_number k.Exists = 7
keyword_number k.From = 8
keyword_number k.Full = 9
keyword_number k.Group = 10
keyword_number k.By = 11
keyword_number k.Having = 12
keyword_number k.In = 13
keyword_number k.Inner = 14
keyword_number k.Is = 15
keyword_number k.Join = 16
keyword_number k.Left = 17
keyword_number k.Max = 18
keyword_number k.Min = 19
keyword_number k.Natural = 20
keyword_number k.Not = 21
keyword_number k.Null = 22
keyword_number k.On = 23
keyword_number k.Or = 24
keyword_number k.Order = 25
keyword_number k.Outer = 26
keyword_number k.Right = 27
keyword_number k.Select = 28
keyword_number k.Sum = 29
keyword_number k.Where = 30

abbrev pub symbol_number : Symbol → ℕ
symbol_number s.OpenParenthesis = 31
symbol_number s.CloseParenthesis = 32
symbol_number s.Comma = 33
symbol_number s.Dot = 34
symbol_number s.Star = 35
symbol_number s.Semicolon = 36

abbrev pub class_number : Class → ℕ
class_number (c.Keyword keyword) = keyword_number keyword
class_number (c.Symbol symbol) = symbol_number symbol
class_number c.Name = 37
class_number c.Number = 38
class_number c.Text = 39
class_number c.Comparison = 40

abbrev pub kind_number : TokenKind → ℕ
kind_number (token.Keyword keyword) = keyword_number keyword
kind_number (token.Symbol symbol) = symbol_number symbol
kind_number (token.Name name) = 37
kind_number (token.Number number) = 38
kind_number (token.Text text) = 39
kind_number (token.Comparison comparison) = 40
