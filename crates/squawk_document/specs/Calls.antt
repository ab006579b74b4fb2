-- The calls that are read from a document's JSON.
use Rattle.std.specs.Prelude.{ℕ, List, codes, Result, Ok, Err, if◌then◌else◌}
use Rattle.std.specs.Str.{chars}
use Rattle.serde_json.specs.Data.{Data}
use Rattle.squawk_script.specs.declared.call.Call.{Call}
use Rattle.squawk_script.specs.declared.call.Call.TheVariants.{Start, Complete, Abandon, Precede, ExtendTo, Eat, BumpAny, BumpRemap, Expect, Error, ErrRecover, ErrAndBump}
use Rattle.squawk_document.specs.declared.document_error.DocumentError.{DocumentError}
use Rattle.squawk_document.specs.declared.document_error.DocumentError.TheVariants.{Shape}
use Rattle.squawk_document.specs.KindSets.{set_in}
use Rattle.squawk_document.specs.Values.{◌>>=◌, each, is_text, item_at, items_in, kind_number_in, string_in, u32_in, with_len}

-- ---- the items of a call

-- a message, as its characters
abbrev pub message_in : Data → Result (List ℕ) DocumentError
message_in d = string_in d >>= λ bytes. Ok (chars bytes)

-- the only argument of a call
abbrev pub argument : List Data → Result Data DocumentError
argument ds = with_len 2 ds >>= λ ds. item_at ds 1

-- ---- calls

-- a call without arguments
abbrev pub no_arguments : List Data → Call → Result Call DocumentError
no_arguments ds call = with_len 1 ds >>= λ ds. Ok call

-- a marker and the kind of its node
abbrev pub complete_in : List Data → Result Call DocumentError
complete_in ds =
    with_len 3 ds >>= λ ds. item_at ds 1 >>= u32_in >>= λ marker. item_at ds 2 >>= kind_number_in >>= λ kind. Ok (Complete marker kind)

-- a node, and the marker that it is extended to
abbrev pub extend_to_in : List Data → Result Call DocumentError
extend_to_in ds =
    with_len 3 ds >>= λ ds. item_at ds 1 >>= u32_in >>= λ node. item_at ds 2 >>= u32_in >>= λ marker. Ok (ExtendTo node marker)

-- a message, and the token kinds at which no token is eaten
abbrev pub err_recover_in : List Data → Result Call DocumentError
err_recover_in ds =
    with_len 3 ds >>= λ ds. item_at ds 1 >>= message_in >>= λ message. item_at ds 2 >>= set_in 0 >>= λ recovery. Ok (ErrRecover message recovery)

-- the call of this name, where the items are the name and the arguments
abbrev pub call_named : List ℕ → List Data → Result Call DocumentError
call_named name ds =
    if is_text name (codes "start") then no_arguments ds Start else
    if is_text name (codes "complete") then complete_in ds else
    if is_text name (codes "abandon") then argument ds >>= u32_in >>= (λ marker. Ok (Abandon marker)) else
    if is_text name (codes "precede") then argument ds >>= u32_in >>= (λ node. Ok (Precede node)) else
    if is_text name (codes "extend_to") then extend_to_in ds else
    if is_text name (codes "eat") then argument ds >>= kind_number_in >>= (λ kind. Ok (Eat kind)) else
    if is_text name (codes "bump_any") then no_arguments ds BumpAny else
    if is_text name (codes "bump_remap") then argument ds >>= kind_number_in >>= (λ kind. Ok (BumpRemap kind)) else
    if is_text name (codes "expect") then argument ds >>= kind_number_in >>= (λ kind. Ok (Expect kind)) else
    if is_text name (codes "error") then argument ds >>= message_in >>= (λ message. Ok (Error message)) else
    if is_text name (codes "err_recover") then err_recover_in ds else
    if is_text name (codes "err_and_bump") then argument ds >>= message_in >>= (λ message. Ok (ErrAndBump message)) else
    Err Shape

-- one call: a list of its name and its arguments
abbrev pub call_in : Data → Result Call DocumentError
call_in d = items_in d >>= λ ds. item_at ds 0 >>= string_in >>= λ name. call_named name ds

-- the calls of a document
abbrev pub calls_in : Data → Result (List Call) DocumentError
calls_in d = items_in d >>= each call_in
