-- The refusals (document 01, "What a call answers"; document 02 for those it adds): the number and the one detail of each.
use Rattle.std.specs.Prelude.{ℕ, eqb}
use Rattle.wire.specs.Field.{pick}
use Rattle.streams.specs.declared.refusal.StreamKind.{StreamKind}
use Rattle.streams.specs.declared.refusal.StreamKind.TheVariants as stream
use Rattle.streams.specs.declared.refusal.Refusal.{Refusal}
use Rattle.streams.specs.declared.refusal.Refusal.TheVariants.{
  UnknownFlags,
  PointerSize,
  Header,
  Tiling,
  Malformed,
  CrossModule,
  UnlistedKind,
  Missing,
  ArgumentTypeNotArgumentList,
  FunctionIdIsNotProcedureType,
  MemberFunctionIdIsNotMemberFunctionType,
  CircularTypeDefinition,
  TooManyOpen,
  ChainTooLong,
  NoRoom,
  UnknownCommand,
  WrongPlace,
}

-- The detail of a refused stream: 0 types, 1 ids.
abbrev pub stream_detail : StreamKind → ℕ
stream_detail stream.Types = 0
stream_detail stream.Ids = 1

-- The number of each row of the table; "New: 17, an entry lacking or not that of this stream, detail the number of the first from 0" (Note 3).
abbrev pub number_of : Refusal → ℕ
number_of (UnknownFlags flags) = 1
number_of (PointerSize size) = 2
number_of (Header stream) = 3
number_of (Tiling stream) = 4
number_of (Malformed index) = 5
number_of (CrossModule index) = 6
number_of (UnlistedKind kind) = 7
number_of (Missing index) = 8
number_of (ArgumentTypeNotArgumentList index) = 9
number_of (FunctionIdIsNotProcedureType index) = 10
number_of (MemberFunctionIdIsNotMemberFunctionType index) = 11
number_of (CircularTypeDefinition index) = 12
number_of (TooManyOpen index) = 13
number_of (ChainTooLong index) = 14
number_of NoRoom = 15
number_of (UnknownCommand command) = 16
number_of (WrongPlace entry) = 17

-- The detail of each row.
abbrev pub detail_of : Refusal → ℕ
detail_of (UnknownFlags flags) = flags
detail_of (PointerSize size) = size
detail_of (Header stream) = stream_detail stream
detail_of (Tiling stream) = stream_detail stream
detail_of (Malformed index) = index
detail_of (CrossModule index) = index
detail_of (UnlistedKind kind) = kind
detail_of (Missing index) = index
detail_of (ArgumentTypeNotArgumentList index) = index
detail_of (FunctionIdIsNotProcedureType index) = index
detail_of (MemberFunctionIdIsNotMemberFunctionType index) = index
detail_of (CircularTypeDefinition index) = index
detail_of (TooManyOpen index) = index
detail_of (ChainTooLong index) = index
detail_of NoRoom = 0
detail_of (UnknownCommand command) = command
detail_of (WrongPlace entry) = entry

-- The refusal of a number with a detail. (A number of none counts as 16, so that each number has one.)
abbrev pub stream_of_detail : ℕ → StreamKind
stream_of_detail d = pick (eqb d 0) stream.Types stream.Ids

unfoldable pub refusal_of : ℕ → ℕ → Refusal
refusal_of n d =
    pick (eqb n 1) (UnknownFlags d)
    (pick (eqb n 2) (PointerSize d)
    (pick (eqb n 3) (Header (stream_of_detail d))
    (pick (eqb n 4) (Tiling (stream_of_detail d))
    (pick (eqb n 5) (Malformed d)
    (pick (eqb n 6) (CrossModule d)
    (pick (eqb n 7) (UnlistedKind d)
    (pick (eqb n 8) (Missing d)
    (pick (eqb n 9) (ArgumentTypeNotArgumentList d)
    (pick (eqb n 10) (FunctionIdIsNotProcedureType d)
    (pick (eqb n 11) (MemberFunctionIdIsNotMemberFunctionType d)
    (pick (eqb n 12) (CircularTypeDefinition d)
    (pick (eqb n 13) (TooManyOpen d)
    (pick (eqb n 14) (ChainTooLong d)
    (pick (eqb n 15) NoRoom
    (pick (eqb n 17) (WrongPlace d)
    (UnknownCommand d))))))))))))))))
