-- All token types, in the order of their numbers.
use Rattle.std.specs.Prelude.{List, [], ◌∷◌, ℕ}
use Rattle.lexer.specs.TokenType as type

abbrev pub all : List ℕ
all =
    type.YyEof ∷ type.YyError ∷ type.YyUndef ∷ type.StartExpression ∷ type.StartBoxedExpression ∷ type.StartTextualExpression ∷ type.StartTextualExpressions ∷ type.StartUnaryTests ∷ type.StartSimpleExpression ∷ type.StartSimpleExpressions ∷ type.StartSimpleValue ∷ type.StartRangeLiteral ∷ type.At ∷ type.Not ∷ type.Colon ∷ type.Comma ∷ type.Every ∷ type.For ∷ type.LeftBrace ∷ type.Null ∷ type.RightArrow ∷ type.Of ∷ type.List ∷ type.Range ∷ type.Context ∷ type.Then ∷ type.Function ∷ type.External ∷ type.If ∷ type.RightBrace ∷ type.Return ∷ type.Some ∷ type.Numeric ∷ type.String ∷ type.Boolean ∷ type.Satisfies ∷ type.Else ∷ type.Or ∷ type.And ∷ type.Eq ∷ type.Ne ∷ type.Lt ∷ type.Le ∷ type.Gt ∷ type.Ge ∷ type.Between ∷ type.BetweenAnd ∷ type.In ∷ type.Minus ∷ type.Plus ∷ type.Mul ∷ type.Div ∷ type.Exp ∷ type.Instance ∷ type.Name ∷ type.NameDateTime ∷ type.BuiltInTypeName ∷ type.LeftParen ∷ type.RightParen ∷ type.LeftBracket ∷ type.RightBracket ∷ type.Ellipsis ∷ type.Dot ∷ []
