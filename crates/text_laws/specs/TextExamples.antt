-- Lines of the desk's language, computed from the definitions of their text.
use Rattle.std.specs.Prelude.{◌≡◌, refl, true, false, [], ◌∷◌, ◌++◌, None, Ok, Some}
use Rattle.grounds.specs.declared.Ground.TheVariants.{ReservedPst, StateOutOfRange}
use Rattle.readings.specs.declared.Outcome.TheVariants.{Value, BusError}
use Rattle.halting.specs.declared.Halting.TheVariants.{NoHalt, Halts, Ignored}
use Rattle.board.specs.Board.{fresh_board, fresh_place}
use Rattle.csr.specs.Csr.{csr_value}
use Rattle.text.specs.Text.{ascii}
use Rattle.text.specs.NumberText.{digit_text, digits_text, width_from, number_text, decimal_text}
use Rattle.refusal_text.specs.RefusalText.{refused_at, refused_text}
use Rattle.request_text.specs.RequestText.{words_text, reading_text, exchange_text}
use Rattle.text.specs.ListingText.{head_text, item_text}
use Rattle.replies.specs.ReplyText.{packet_text, seen_text, pressed_text, peek_text}
use Rattle.state_line.specs.StateText.{registers_text, fault_text, state_text}

pub record Shown : Type 0 where
  pub thirty_two_bits : number_text 0xFFFFFFFF ≡ ascii "FFFFFFFF"
  pub sixty_four_bits : decimal_text 0xFFFFFFFFFFFFFFFF ≡ ascii "18446744073709551615"
  pub zero_is_a_digit : number_text 0 ++ decimal_text 0 ≡ ascii "00"
  pub a_reply : packet_text (Ok 0xBEEF) ≡ ascii "reply 0BEEF"
  pub a_refusal : refused_text StateOutOfRange ≡ ascii "refused 12 at 0"
  pub refused_at_a_cycle : refused_at ReservedPst 4660 ≡ ascii "refused 8 at 4660"
  pub an_event : seen_text (record { level = 2; halted = true; interrupt = false; captured = Some 0xC0DE; halting = NoHalt })
      ≡ ascii "event level 2 halted 1 interrupt 0 pc 0000C0DE"
  pub no_pc : seen_text (record { level = 0; halted = false; interrupt = false; captured = None; halting = NoHalt })
      ≡ ascii "event level 0 halted 0 interrupt 0 pc none"
  pub halted_itself : seen_text (record { level = 0; halted = true; interrupt = false; captured = Some 0xC0DE; halting = Halts })
      ≡ ascii "event level 0 halted 1 interrupt 0 pc 0000C0DE ignored 0"
  pub halted_nothing : seen_text (record { level = 0; halted = false; interrupt = false; captured = None; halting = Ignored })
      ≡ ascii "event level 0 halted 0 interrupt 0 pc none ignored 1"
  pub a_breakpoint : pressed_text (record { halted = true; interrupt = false }) ≡ ascii "breakpoint halted 1 interrupt 0"
  pub a_peek : peek_text (0 ∷ 0x7F ∷ 0xFF ∷ []) 1 3 ≡ ascii "peek 7FFF00"
  pub three_words : words_text (0x1980 ∷ 0 ∷ 4 ∷ []) ≡ ascii "words 01980 00000 00004"
  pub a_value : reading_text (Ok (Some (Value 0x04050607), 5)) ≡ ascii "value 04050607 used 5"
  pub not_yet : reading_text (Ok (None, 12)) ≡ ascii "not-yet used 12"
  pub a_bus_error : exchange_text BusError 6 ≡ ascii "bus-error packets 6"
  pub a_head : head_text 9 5 ≡ ascii "trace cycles=9 items=5"
  pub an_item : item_text 6 9 4660 ≡ ascii "6 9 4660"
  pub fresh : state_text (fresh_board 0xF) fresh_place
      ≡ ascii "state w=F halted=1 csr=01100000 tdr=00000000 aatr=0005 baar=05 pbr=00000000 pbmr=00000000 abhr=00000000 ablr=00000000 "
      ++ ascii "dbr=00000000 dbmr=00000000 d0=00000000 d1=00000000 d2=00000000 d3=00000000 d4=00000000 d5=00000000 d6=00000000 d7=00000000 "
      ++ ascii "a0=00000000 a1=00000000 a2=00000000 a3=00000000 a4=00000000 a5=00000000 a6=00000000 a7=00000000 "
      ++ ascii "cacr=00000000 acr0=00000000 acr1=00000000 vbr=00000000 macsr=00000000 mask=00000000 acc=00000000 sr=00000000 pc=00000000 "
      ++ ascii "rambar=00000000 sync=0 phase=rest chain=none pointer=00000 next=0FFFF fault=none"
  pub at_address_zero : fault_text (Some 0) ≡ ascii " fault=00000000"

pub shown : Shown
unfolding digit_text digits_text width_from fresh_board fresh_place csr_value registers_text state_text
shown =
    record {
      thirty_two_bits = refl;
      sixty_four_bits = refl;
      zero_is_a_digit = refl;
      a_reply = refl;
      a_refusal = refl;
      refused_at_a_cycle = refl;
      an_event = refl;
      no_pc = refl;
      halted_itself = refl;
      halted_nothing = refl;
      a_breakpoint = refl;
      a_peek = refl;
      three_words = refl;
      a_value = refl;
      not_yet = refl;
      a_bus_error = refl;
      a_head = refl;
      an_item = refl;
      fresh = refl;
      at_address_zero = refl;
    }
