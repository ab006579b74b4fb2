-- Events that are read, case by case.
use Rattle.std.proofs.Common.{◌≡◌, ℕ, ◌<◌, ◌≤◌, inl, inr, List, None, Some, ap, length, lt-ltb, refl}
use Rattle.std.specs.Prelude.{IsUtf8, nat_lt, slice_range}
use Rattle.std.specs.Str.{is_utf8}
use Rattle.std.proofs.lemmas.Bool.{cases_Bool, le-leb, ltb-true}
use Rattle.std.proofs.lemmas.Str.{IsUtf8-from_is_utf8, is_utf8-from_IsUtf8}
use Rattle.squawk_output.specs.declared.event.Event.TheVariants.{Token}
use Rattle.caliperdock_c.specs.Events.{event_of, message_in}
use Rattle.caliperdock_c.specs.declared.event.CEvent.{CEvent}

pub message_there : (messages : List ℕ) (start end : ℕ) (text : List ℕ) → start ≤ end → end ≤ length messages
    → text ≡ slice_range messages start end → IsUtf8 (slice_range messages start end) → Some text ≡ message_in messages start end
message_there messages start end text le within is utf8 =
    rw (le-leb start end le, le-leb end (length messages) within, is_utf8-from_IsUtf8 (slice_range messages start end) utf8) (ap Some is)

pub message_unread : (messages : List ℕ) (start end : ℕ) → start ≤ end → end ≤ length messages
    → (IsUtf8 (slice_range messages start end) → ⊥) → None ≡ message_in messages start end
message_unread messages start end le within not_utf8 =
    elim (cases_Bool (is_utf8 (slice_range messages start end))) [
      | inl e ↦ absurd (not_utf8 (IsUtf8-from_is_utf8 (slice_range messages start end) e))
      | inr e ↦ rw (le-leb start end le, le-leb end (length messages) within, e) refl
    ]

pub token_read : (messages : List ℕ) (e : CEvent) (n : ℕ) → e.tag ≡ 2 → e.a < 256 → n ≡ e.a → Some (Token e.kind n) ≡ event_of messages e
token_read messages e n tag lt is = rw (tag, lt-ltb e.a 256 lt) (ap (λ n. Some (Token e.kind n)) is)

pub token_unread : (messages : List ℕ) (e : CEvent) → e.tag ≡ 2 → (e.a < 256 → ⊥) → None ≡ event_of messages e
token_unread messages e tag past =
    elim (cases_Bool (nat_lt e.a 256)) [
      | inl b ↦ absurd (past (ltb-true e.a 256 b))
      | inr b ↦ rw (tag, b) refl
    ]
