-- Values for threads.
use Rattle.ftp_system.specs.declared.queue.PutError.{PutError}
use Rattle.ftp_system.specs.declared.queue.PutError.TheVariants.{Closed, OutOfMemory}

-- the value that was not put into the queue
abbrev pub value_of : {T : Type 0} → PutError T → T
value_of (Closed value) = value
value_of (OutOfMemory value) = value
