-- The words that say what a line, or a part of one, is.

-- the word of a line of a state
pub data LineWord : Type 0 where
  Checkpoint : LineWord
  Used : LineWord
  Record : LineWord
  Session : LineWord
  Slot : LineWord
  Queued : LineWord
  Job : LineWord

-- the word of what a slot has
pub data SlotWord : Type 0 where
  Waits : SlotWord
  Link : SlotWord

-- the word of an answer
pub data AnswerWord : Type 0 where
  Header : AnswerWord
  Done : AnswerWord
  Moved : AnswerWord

-- the word of an action
pub data ActionWord : Type 0 where
  Completed : ActionWord
  Cancelled : ActionWord
  Close : ActionWord
  Notify : ActionWord
  Reply : ActionWord
  Start : ActionWord

-- the word of a message
pub data MessageWord : Type 0 where
  Denied : MessageWord
  NotFound : MessageWord
  DelFail : MessageWord
  MkdirFail : MessageWord
  Deleted : MessageWord
  Removed : MessageWord
  Made : MessageWord
  Renamed : MessageWord
  Kind : MessageWord
  AsItIs : MessageWord
