-- What contracts see of the forms of composite kinds.
use Rattle.std.specs.Prelude.{ℕ, ◌==◌, map, if◌then◌else◌}
use Rattle.squawk_kinds.specs.Kinds.{UNICODE_NORMAL_FORM}
use Rattle.squawk_parser.specs.Composites.{Element, One, normal_form, Form as TheForm, Glued, Joint, Sequence, Operator, Tail as TheTail, NoTail, Open, ClosedBy}
use Rattle.squawk_parser.specs.declared.parser.composite.Form.{Form}
use Rattle.squawk_parser.specs.declared.parser.composite.Form.TheVariants as form
use Rattle.squawk_parser.specs.declared.parser.composite.Tail.{Tail}
use Rattle.squawk_parser.specs.declared.parser.composite.Tail.TheVariants as tail

-- the node of normal forms stands for the normal form that may be left out
abbrev pub element_of : ℕ → Element
element_of kind = if kind == UNICODE_NORMAL_FORM then normal_form else One kind

-- what follows the elements of a composite kind, as the list of composites has it
abbrev pub tail_of : Tail → TheTail
tail_of tail.Nothing = NoTail
tail_of tail.Open = Open
tail_of (tail.ClosedBy kind) = ClosedBy kind

-- and how the tokens of a composite kind stand, and what they become
abbrev pub form_of : Form → TheForm
form_of (form.Glued parts) = Glued parts
form_of (form.Joint parts) = Joint parts
form_of (form.Sequence parts tail) = Sequence (map element_of parts) (tail_of tail)
form_of form.Operator = Operator
