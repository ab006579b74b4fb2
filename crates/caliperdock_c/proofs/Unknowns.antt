-- The first item that isn't written as one.
use Rattle.std.proofs.Common.{◌≡◌, ◌∙◌, ℕ, ◌<◌, List, Option, Some, None, length, get_or, map, take, ap, sym}
use Rattle.std.proofs.lemmas.List.{get_or_default}
use Rattle.squawk_tokens.specs.declared.token.Token.{Token}
use Rattle.squawk_output.specs.declared.event.Event.{Event}
use Rattle.caliperdock_c.specs.Events.{event_of}
use Rattle.caliperdock_c.specs.Refusals.{IsFirstUnknown}
use Rattle.caliperdock_c.specs.Tokens.{token_of}
use Rattle.caliperdock_c.specs.declared.event.CEvent.{CEvent}
use Rattle.caliperdock_c.specs.declared.token.CToken.{CToken}

pub first_unknown : {A B : Type 0} (read : A → Option B) (items : List A) (i : ℕ) (d : A) (known : List B) → i < length items
    → map Some known ≡ map read (take i items) → None ≡ read (get_or items i d) → IsFirstUnknown read items i
first_unknown {A} {B} read items i d known lt before none = record {
  within = lt;
  known = known;
  before = before;
  unknown = λ e. ap read (get_or_default items i e d lt) ∙ sym none;
}

pub first_token : (tokens : List CToken) (i : ℕ) (d : CToken) (known : List Token) → i < length tokens
    → map Some known ≡ map token_of (take i tokens) → None ≡ token_of (get_or tokens i d) → IsFirstUnknown token_of tokens i
first_token = first_unknown token_of

pub first_event : (messages : List ℕ) (events : List CEvent) (i : ℕ) (d : CEvent) (known : List Event) → i < length events
    → map Some known ≡ map (event_of messages) (take i events) → None ≡ event_of messages (get_or events i d) → IsFirstUnknown (event_of messages) events i
first_event messages = first_unknown (event_of messages)
