-- What one order comes to, in the model of the reading. Assumes nothing.
use Rattle.std.specs.Prelude.{◌≡◌, ℕ, ◌<◌, ◌≤◌, cond, ◌&&◌, List, length, drop, Some, None, Ok, Err, Option, Result, nat_lt}
use Rattle.refusal.specs.declared.Refusal.{Refusal}
use Rattle.refusal.specs.declared.Refusal.TheVariants.{DefaultRecipeRequiresArguments}
use Rattle.text.specs.Identifier.{Text}
use Rattle.text.specs.Spans.{texts_at}
use Rattle.text.specs.declared.span.Span.{Span}
use Rattle.register.specs.Meaning.{NameMeaning, SignatureMeaning}
use Rattle.judge.specs.Meaning.{JudgeMeaning}
use Rattle.path.specs.Path.{LawfulPath, PathAnswer}
use Rattle.path.specs.declared.path.Path.{Path}
use Rattle.reading.specs.Signature.{required_count}
use Rattle.reading.specs.Model.{Ordered, read_order}
use Rattle.reading.specs.Model.Ordered.{Took, Refuses}
use Rattle.reader.specs.Steps.{state_of}
use Rattle.reader.specs.declared.invocation_parser.InvocationParser.{InvocationParser}

-- a default whose recipe has required parameters
abbrev pub default_fault : SignatureMeaning → Path → Option Refusal
default_fault s path = cond (path.default && nat_lt 0 (required_count (s.parameters path.recipe))) (Some (DefaultRecipeRequiresArguments 0 (required_count (s.parameters path.recipe)))) None

abbrev pub unless : Option Refusal → Ordered → Ordered
unless None order = order
unless (Some refusal) order = Refuses refusal

-- one order by the answer of its path
abbrev pub order_by : SignatureMeaning → JudgeMeaning → List Text → Result Path Refusal → Ordered
order_by s judge ws (Err refusal) = Refuses refusal
order_by s judge ws (Ok path) = unless (default_fault s path) (read_order (s.parameters path.recipe) judge path.words (drop path.words ws))

-- the order that a parser read, and the words behind it
abbrev pub parsed_order : SignatureMeaning → List ℕ → List Span → Result Path Refusal → InvocationParser → Ordered
parsed_order s bytes words (Ok path) parser = Took (state_of (s.parameters path.recipe) bytes parser.order parser.roles.items) (texts_at bytes (drop parser.order.words words))
parsed_order s bytes words (Err refusal) parser = Refuses refusal

-- this is what the words come to by their only path
abbrev pub OrderedBy : NameMeaning → SignatureMeaning → JudgeMeaning → List ℕ → List Span → Result Path Refusal → InvocationParser → Type 0
OrderedBy names s judge bytes words r parser = (walked : Result Path Refusal) → PathAnswer names (texts_at bytes words) walked → parsed_order s bytes words r parser ≡ order_by s judge (texts_at bytes words) walked

-- its path is lawful, and it has no more words than there are, and one at least where there are any
abbrev pub ParsedWithin : NameMeaning → List ℕ → List Span → Result Path Refusal → InvocationParser → Type 0
ParsedWithin names bytes words (Ok path) parser = LawfulPath names (texts_at bytes words) path × (parser.order.words ≤ length words) × (0 < length words → 0 < parser.order.words)
ParsedWithin names bytes words (Err refusal) parser = Unit {0}
