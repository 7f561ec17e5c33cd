-- Proofs of `word`, src/front.rt.
use Rattle.lexer.specs.declared.token.TokenKind.TheVariants as kind
use Rattle.lexer.specs.Tokens.{Lexeme, IsWord}
use Rattle.lexer.proofs.FrontLaws.{word_at, word_first, reduction_first}
use Rattle.lexer.proofs.front.word.Goals as goal

pub returns-in-Some-keyword_of : goal.returns-in-Some-keyword_of
returns-in-Some-keyword_of c =
    let word : IsWord c.split_at.result.0.now = word_at c.args.bytes.now _ c.word_len-len.result c.requires.some c.requires.letter c.word_len-len.ensures c.split_at.ensures.front in
    word_first (Lexeme (kind.Keyword c.in-Some-keyword_of.keyword)) c.args.bytes.now c.split_at.result.0.now c.split_at.result.1.now c.word_len-len.result
    c.word_len-len.ensures c.split_at.ensures.front c.split_at.ensures.back word c.in-Some-keyword_of.ensures.found c.in_default.ensures tt

pub returns-in-None : goal.returns-in-None
returns-in-None c =
    let word : IsWord c.split_at.result.0.now = word_at c.args.bytes.now _ c.word_len-len.result c.requires.some c.requires.letter c.word_len-len.ensures c.split_at.ensures.front in
    word_first (Lexeme kind.Name) c.args.bytes.now c.split_at.result.0.now c.split_at.result.1.now c.word_len-len.result
    c.word_len-len.ensures c.split_at.ensures.front c.split_at.ensures.back word (word, c.in-None.ensures.none) c.in_default.ensures tt

pub reduction-requires : goal.reduction-requires
reduction-requires c = word_at c.args.bytes.now _ c.word_len-len.result c.requires.some c.requires.letter c.word_len-len.ensures c.split_at.ensures.front

pub returns-in-Some : goal.returns-in-Some
returns-in-Some c =
    let word : IsWord c.split_at.result.0.now = word_at c.args.bytes.now _ c.word_len-len.result c.requires.some c.requires.letter c.word_len-len.ensures c.split_at.ensures.front in
    let found = c.in-Some.ensures in
    reduction_first c.in-Some.symbol c.args.bytes.now c.split_at.result.0.now c.split_at.result.1.now found.1 c.word_len-len.result
    c.word_len-len.ensures.0 c.split_at.ensures.front c.split_at.ensures.back word found.0 found.2
