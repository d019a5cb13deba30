-- Laws: the work of a command keeps the board, the place and memory sound, and its reply is one of 01's list.
use Rattle.std.specs.Prelude.{ℕ, ◌+◌, ◌-◌, ◌/◌, ◌%◌, ◌^◌, ◌≤◌, ◌<◌, ◌≡◌, refl, Bool, true, false, ◌||◌, List, eqb, leb, length, get_or, Err, None, Ok, Some}
use Rattle.std.proofs.Common.{arith, leb-true, le-leb}
use Rattle.std.proofs.lemmas.Nat.{and_le_r}
use Rattle.laws.specs.TestLaws.{either}
use Rattle.memory.specs.declared.Size.{Size}
use Rattle.memory.specs.declared.Size.TheVariants.{Byte, Word, Long}
use Rattle.memory.specs.Memory.{aligned, present, first_missing, value_at, fetched, stored, reach}
use Rattle.memory.specs.MemoryLaws.{store_keeps_bytes, store_keeps_length, value_within, limit}
use Rattle.command.specs.declared.Command.{Command}
use Rattle.command.specs.declared.Command.TheVariants.{Unknown, Nop, Load, Store, Show, Change}
use Rattle.command.specs.declared.Source.{Source}
use Rattle.command.specs.declared.Source.TheVariants as source
use Rattle.command.specs.Reply.{complete, not_ready, bus_error, illegal}
use Rattle.board.specs.declared.Board.{Board}
use Rattle.board.specs.declared.Place.{Place}
use Rattle.csr.specs.Csr.{flag, csr_value}
use Rattle.control.specs.Control.{control_index, control_listed, control_fetched}
use Rattle.registers.specs.Registers.{shown, reached}
use Rattle.access.specs.declared.Access.{Access}
use Rattle.access.specs.declared.Access.TheVariants.{NoAccess, Fetched, Stored, Missing}
use Rattle.work.specs.declared.Ending.{Ending}
use Rattle.work.specs.declared.Ending.TheVariants.{Complete, Failed, OneWord, TwoWords}
use Rattle.access.specs.Access.{past, fetched_access, stored_access, fetching, storing, start_of, access_of, memory_after, pointer_after}
use Rattle.work.specs.Work.{access_ending, shown_ending, change_ending, ending_of, first_reply, phase_after, place_after}
use Rattle.sound.specs.Sound.{SoundBoard, PhaseWithin, SoundPlace, SoundMemory}

-- ---- memory and the pointer
abbrev AccessWithin : Access → Type 0
AccessWithin NoAccess = Unit {0}
AccessWithin (Fetched s v past) = (v < limit s) × (past ≤ 65536)
AccessWithin (Stored past) = past ≤ 65536
AccessWithin (Missing first) = Unit {0}

past_within : (m : List ℕ) (s : Size) (a : ℕ) → length m ≤ 65536 → present m s a ≡ true → past s a ≤ 65536
past_within m Byte a h e = let fits : a - a % 1 + 1 ≤ length m = leb-true _ _ e in omega arith
past_within m Word a h e = let fits : a - a % 2 + 2 ≤ length m = leb-true _ _ e in omega arith
past_within m Long a h e = let fits : a - a % 4 + 4 ≤ length m = leb-true _ _ e in omega arith

fetching_within : (m : List ℕ) (s : Size) (a : ℕ) → SoundMemory m → AccessWithin (fetching m s a)
unfolding fetched
fetching_within m s a h =
    either (λ f. AccessWithin (fetched_access s (past s a) f)) (present m s a) (Ok (value_at m s (aligned s a))) (Err (first_missing m s a))
    (λ e. (value_within m s (aligned s a) h.bytes, past_within m s a h.limit e)) (λ e. tt)

storing_within : (m : List ℕ) (s : Size) (a : ℕ) → SoundMemory m → AccessWithin (storing m s a)
unfolding reach
storing_within m s a h =
    either (λ r. AccessWithin (stored_access (past s a) r)) (present m s a) (Ok tt) (Err (first_missing m s a)) (λ e. past_within m s a h.limit e) (λ e. tt)

access_within : (c : Command) (m : List ℕ) (pointer address : ℕ) → SoundMemory m → AccessWithin (access_of c m pointer address)
access_within Unknown m p a h = tt
access_within Nop m p a h = tt
access_within (Load s base) m p a h = fetching_within m s (start_of base p a) h
access_within (Store s base) m p a h = storing_within m s (start_of base p a) h
access_within (Show source) m p a h = tt
access_within (Change target) m p a h = tt

stored_sound : (m : List ℕ) (s : Size) (a v : ℕ) → SoundMemory m → SoundMemory (stored m s a v)
stored_sound m s a v h = record { limit = rw (store_keeps_length m s a v) h.limit; bytes = store_keeps_bytes m s a v h.bytes }

pub work_keeps_memory : (c : Command) (m : List ℕ) (pointer address value : ℕ) → SoundMemory m → SoundMemory (memory_after c m pointer address value)
work_keeps_memory Unknown m p a v h = h
work_keeps_memory Nop m p a v h = h
work_keeps_memory (Load s base) m p a v h = h
work_keeps_memory (Store s base) m p a v h = stored_sound m s (start_of base p a) v h
work_keeps_memory (Show source) m p a v h = h
work_keeps_memory (Change target) m p a v h = h

-- ---- what the work ends in
abbrev EndingWithin : Ending → Type 0
EndingWithin Complete = Unit {0}
EndingWithin Failed = Unit {0}
EndingWithin (OneWord v) = v < 2 ^ 16
EndingWithin (TwoWords v) = v < 2 ^ 32

flag_le : (x : Bool) → flag x ≤ 1
flag_le true = omega arith
flag_le false = omega arith

csr_within : (b : Board) → csr_value b < 2 ^ 32
unfolding csr_value
csr_within b =
    omega (arith, flag_le b.status.fof, flag_le b.status.trg, flag_le b.status.halt, flag_le b.status.bkpt, and_le_r b.debug.csr 0x0007FF70)

access_ending_within : (x : Access) → AccessWithin x → EndingWithin (access_ending x)
access_ending_within NoAccess h = tt
access_ending_within (Fetched Byte v past) h = omega (arith, h.0)
access_ending_within (Fetched Word v past) h = h.0
access_ending_within (Fetched Long v past) h = h.0
access_ending_within (Stored past) h = tt
access_ending_within (Missing first) h = tt

shown_within : (w : ℕ) (source : Source) (b : Board) (address : ℕ) → SoundBoard w b → EndingWithin (shown_ending (shown source b address))
unfolding control_fetched
shown_within w (source.General n) b a h = h.general (n % 16)
shown_within w source.Control b a h =
    either (λ f. EndingWithin (shown_ending f)) (control_listed a) (Some (get_or b.registers.control (control_index a) 0)) None
    (λ e. h.control (control_index a)) (λ e. tt)
shown_within w source.Csr b a h = csr_within b

change_within : (t : Bool) → EndingWithin (change_ending t)
change_within true = tt
change_within false = tt

ending_within : (w : ℕ) (c : Command) (b : Board) (address : ℕ) (x : Access) → SoundBoard w b → AccessWithin x → EndingWithin (ending_of c b address x)
ending_within w Unknown b a x h k = tt
ending_within w Nop b a x h k = tt
ending_within w (Load s base) b a x h k = access_ending_within x k
ending_within w (Store s base) b a x h k = access_ending_within x k
ending_within w (Show source) b a x h k = shown_within w source b a h
ending_within w (Change target) b a x h k = change_within (reached target a)

next_within : (e : Ending) → EndingWithin e → first_reply e ≤ 0x1FFFF
next_within Complete h = omega arith
next_within Failed h = omega arith
next_within (OneWord v) h = omega arith
next_within (TwoWords v) h = omega arith

-- "Replies: S=0 with data, or 0x0FFFF complete; 0x10000 not ready; 0x10001 bus error; 0x1FFFF illegal."
abbrev pub listed_reply : ℕ → Bool
listed_reply r = leb r complete || eqb r not_ready || eqb r bus_error || eqb r illegal

first_reply_listed : (e : Ending) → EndingWithin e → listed_reply (first_reply e) ≡ true
first_reply_listed Complete h = refl
first_reply_listed Failed h = refl
first_reply_listed (OneWord v) h = rw (le-leb v complete (omega arith))
first_reply_listed (TwoWords v) h = rw (le-leb (v / 65536) complete (omega arith))

phase_after_within : (w : ℕ) (e : Ending) → PhaseWithin w (phase_after e)
phase_after_within w Complete = tt
phase_after_within w Failed = tt
phase_after_within w (OneWord v) = tt
phase_after_within w (TwoWords v) = omega arith

pointer_within : (x : Access) (pointer : ℕ) → AccessWithin x → pointer ≤ 65536 → pointer_after x pointer ≤ 65536
pointer_within NoAccess p h k = k
pointer_within (Fetched s v past) p h k = h.1
pointer_within (Stored past) p h k = h
pointer_within (Missing first) p h k = k

pub work_keeps_place : (w : ℕ) (c : Command) (b : Board) (p : Place) (m : List ℕ) (address : ℕ) → SoundBoard w b → SoundPlace w p → SoundMemory m
    → SoundPlace w (place_after c p (access_of c m p.pointer address) (ending_of c b address (access_of c m p.pointer address)))
work_keeps_place w c b p m a h k l =
    let x : AccessWithin (access_of c m p.pointer a) = access_within c m p.pointer a l in
    record {
      phase = phase_after_within w (ending_of c b a (access_of c m p.pointer a));
      next = next_within (ending_of c b a (access_of c m p.pointer a)) (ending_within w c b a (access_of c m p.pointer a) h x);
      pointer = pointer_within (access_of c m p.pointer a) p.pointer x k.pointer;
    }

pub work_reply_listed : (w : ℕ) (c : Command) (b : Board) (p : Place) (m : List ℕ) (address : ℕ) → SoundBoard w b → SoundMemory m
    → listed_reply (first_reply (ending_of c b address (access_of c m p.pointer address))) ≡ true
work_reply_listed w c b p m a h l =
    let x = access_of c m p.pointer a in first_reply_listed (ending_of c b a x) (ending_within w c b a x h (access_within c m p.pointer a l))
