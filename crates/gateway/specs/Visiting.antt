-- The desk's language, `gateway`: what the lines that come in do to the visit and its notes, and which packets follow them.
use Rattle.std.specs.Prelude.{ℕ, ◌≡◌, cond, List, [], ◌∷◌, ◌++◌}
use Rattle.console.specs.InputLines.{lines_served}
use Rattle.console.specs.LineWriting.{laid}
use Rattle.visit.specs.declared.Visit.{Visit}
use Rattle.visit.specs.Visit.{heard, noted, lost, is_over}
use Rattle.visit_lines.specs.VisitLines.{packet_line}
use Rattle.reply_lines.specs.declared.ReplyLine.{ReplyLine}
use Rattle.reply_lines.specs.declared.ReplyLine.TheVariants.{Nothing, Reply, NoReply}
use Rattle.reply_lines.specs.ReplyLines.{reply_line}

pub record Standing : Type 0 where
  pub visit : Visit
  pub notes : List ℕ

abbrev pub standing : Visit → List ℕ → Standing
standing v notes = record { visit = v; notes = notes }

-- an answer; "a line that is no reply" ends the visit
abbrev pub answered : ReplyLine → Standing → Standing
answered Nothing s = s
answered (Reply word) s = standing (heard s.visit word) (noted s.visit word s.notes)
answered NoReply s = standing (lost s.visit) s.notes

abbrev pub after_line : List ℕ → Standing → Standing
after_line line s = answered (reply_line line) s

-- lines in their order, until the visit is over; "or the end of the input"
abbrev pub course : List (List ℕ) → Standing → Standing
course [] s = standing (lost s.visit) s.notes
course (line ∷ lines) s = cond (is_over s.visit.stage) s (course lines (after_line line s))

-- "each after the answer to the one before has come in": the packet that follows a reply
abbrev pub followed : ReplyLine → Visit → List (List ℕ)
followed Nothing v = []
followed (Reply word) v = packet_line (heard v word)
followed NoReply v = []

abbrev pub packet_lines : List (List ℕ) → Standing → List (List ℕ)
packet_lines [] s = []
packet_lines (line ∷ lines) s = cond (is_over s.visit.stage) [] (followed (reply_line line) s.visit ++ packet_lines lines (after_line line s))

-- the packet that the visit sends now stands at the front of the buffer, with its line end
abbrev pub Shows : Visit → List ℕ → Type 0
Shows v buffer = buffer ≡ laid buffer (packet_line v)

-- the promise of a line: the visit, its notes, and the packet that follows at the front of the buffer
pub record LineMeets (line : List ℕ) (v : Visit) (before buffer : List ℕ) (r : Visit) (after packet : List ℕ) : Type 0 where
  pub leaves : standing r after ≡ after_line line (standing v before)
  pub said : packet ≡ laid buffer (followed (reply_line line) v)

-- the promise of a visit held over standard input: it and its notes are what the lines of what was unread and of some bytes, which reads have brought, make
-- of them; the packets that follow them were put at the front of the buffer, each over the one before it
pub record VisitMeets (unread : List ℕ) (v : Visit) (before buffer : List ℕ) (r : Visit) (after packet : List ℕ) : Type 0 where
  pub brought : List ℕ
  pub leaves : standing r after ≡ course (lines_served unread brought) (standing v before)
  pub said : packet ≡ laid buffer (packet_lines (lines_served unread brought) (standing v before))
