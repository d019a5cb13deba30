use mathlib.Core.Path.{◌∙◌}
use Rattle.course.proofs.CourseLaws.{some_said, none_said}
use Rattle.conversation.proofs.serve.Goals.{then-answered-gt0, else-answered-gt0}
use Rattle.conversation.proofs.serve.Goals as goal

pub returns : goal.returns
returns c = let a = c.answer-answered.ensures in record {
  board = a.bench;
  memory = a.memory;
  over = c.is_quit-over.ensures;
  said = elim c.if-answered-gt0.branch [
    | then-answered-gt0 w ↦ w.text-is ∙ some_said _ a.text w.say.ensures w.if-answered-gt0.true
    | else-answered-gt0 w ↦ w.text-is ∙ none_said _ a.text w.if-answered-gt0.false
  ];
}
