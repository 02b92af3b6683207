mod AtTheStart
