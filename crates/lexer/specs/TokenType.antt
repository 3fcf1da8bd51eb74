-- The token numbers of the grammar tables (lalr.rs).
use Rattle.std.specs.Prelude.{ℕ}

abbrev pub YyEof : ℕ
YyEof = 0

abbrev pub YyError : ℕ
YyError = 256

abbrev pub YyUndef : ℕ
YyUndef = 257

abbrev pub StartExpression : ℕ
StartExpression = 258

abbrev pub StartBoxedExpression : ℕ
StartBoxedExpression = 259

abbrev pub StartTextualExpression : ℕ
StartTextualExpression = 260

abbrev pub StartTextualExpressions : ℕ
StartTextualExpressions = 261

abbrev pub StartUnaryTests : ℕ
StartUnaryTests = 262

abbrev pub StartSimpleExpression : ℕ
StartSimpleExpression = 263

abbrev pub StartSimpleExpressions : ℕ
StartSimpleExpressions = 264

abbrev pub StartSimpleValue : ℕ
StartSimpleValue = 265

abbrev pub StartRangeLiteral : ℕ
StartRangeLiteral = 266

abbrev pub At : ℕ
At = 267

abbrev pub Not : ℕ
Not = 268

abbrev pub Colon : ℕ
Colon = 269

abbrev pub Comma : ℕ
Comma = 270

abbrev pub Every : ℕ
Every = 271

abbrev pub For : ℕ
For = 272

abbrev pub LeftBrace : ℕ
LeftBrace = 273

abbrev pub Null : ℕ
Null = 274

abbrev pub RightArrow : ℕ
RightArrow = 275

abbrev pub Of : ℕ
Of = 276

abbrev pub List : ℕ
List = 277

abbrev pub Range : ℕ
Range = 278

abbrev pub Context : ℕ
Context = 279

abbrev pub Then : ℕ
Then = 280

abbrev pub Function : ℕ
Function = 281

abbrev pub External : ℕ
External = 282

abbrev pub If : ℕ
If = 283

abbrev pub RightBrace : ℕ
RightBrace = 284

abbrev pub Return : ℕ
Return = 285

abbrev pub Some : ℕ
Some = 286

abbrev pub Numeric : ℕ
Numeric = 287

abbrev pub String : ℕ
String = 288

abbrev pub Boolean : ℕ
Boolean = 289

abbrev pub Satisfies : ℕ
Satisfies = 290

abbrev pub Else : ℕ
Else = 291

abbrev pub Or : ℕ
Or = 292

abbrev pub And : ℕ
And = 293

abbrev pub Eq : ℕ
Eq = 294

abbrev pub Ne : ℕ
Ne = 295

abbrev pub Lt : ℕ
Lt = 296

abbrev pub Le : ℕ
Le = 297

abbrev pub Gt : ℕ
Gt = 298

abbrev pub Ge : ℕ
Ge = 299

abbrev pub Between : ℕ
Between = 300

abbrev pub BetweenAnd : ℕ
BetweenAnd = 301

abbrev pub In : ℕ
In = 302

abbrev pub Minus : ℕ
Minus = 303

abbrev pub Plus : ℕ
Plus = 304

abbrev pub Mul : ℕ
Mul = 305

abbrev pub Div : ℕ
Div = 306

abbrev pub Exp : ℕ
Exp = 307

abbrev pub Instance : ℕ
Instance = 309

abbrev pub Name : ℕ
Name = 310

abbrev pub NameDateTime : ℕ
NameDateTime = 311

abbrev pub BuiltInTypeName : ℕ
BuiltInTypeName = 312

abbrev pub LeftParen : ℕ
LeftParen = 313

abbrev pub RightParen : ℕ
RightParen = 314

abbrev pub LeftBracket : ℕ
LeftBracket = 315

abbrev pub RightBracket : ℕ
RightBracket = 316

abbrev pub Ellipsis : ℕ
Ellipsis = 317

abbrev pub Dot : ℕ
Dot = 318
