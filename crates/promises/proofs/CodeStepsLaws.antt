-- The promises are about the code: its contracts force the steps of a history.
use Rattle.std.proofs.Common.{ap, ap₂, ◌∙◌, le-leb}
use Rattle.std.specs.Prelude.{[]}
use Rattle.board.specs.declared.Board.{Board}
use Rattle.board.specs.declared.Place.{Place}
use Rattle.board.specs.State.{state_of}
use Rattle.port.specs.PacketLaws.{refusal_changes_nothing, accepted_takes_its_step}
use Rattle.bus.specs.EventLaws.{refused_event_changes_nothing, refused_breakpoint_changes_nothing}
use Rattle.promises.specs.CodeSteps.{CodeSteps}

pub code_steps : CodeSteps
code_steps = record {
  making = λ w r h f. ap₂ (λ (b : Board) (p : Place). state_of b p []) (f.board ∙ rw (le-leb w 15 h)) f.place;
  packets = λ s m word r out f. f.state;
  accepted = λ s m word r out f e. accepted_takes_its_step f e;
  refused = λ s m word r out g f e. refusal_changes_nothing g f e;
  events = λ s e r f. ap (λ (b : Board). state_of b s.place s.memory) f.board;
  inputs = λ s r f. ap (λ (b : Board). state_of b s.place s.memory) f.board;
  still_packet = λ s m word g e. rw e;
  still_event = λ s e g f. ap (λ (b : Board). state_of b s.place s.memory) (refused_event_changes_nothing s.board s.place e g f);
  still_breakpoint = λ s g f. ap (λ (b : Board). state_of b s.place s.memory) (refused_breakpoint_changes_nothing s.board s.place g f);
}
